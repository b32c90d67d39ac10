pub mod Taken
pub mod Pair

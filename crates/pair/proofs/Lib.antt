pub mod Ranks
pub mod Returns
pub mod Pairs
pub mod Given

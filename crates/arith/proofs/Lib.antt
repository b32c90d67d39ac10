pub mod Range
pub mod Halves

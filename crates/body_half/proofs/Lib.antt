pub mod Halves
pub mod Bounds
pub mod Expanding
pub mod Offsets
pub mod Quantities
pub mod Simple

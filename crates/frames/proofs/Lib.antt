pub mod Copying
pub mod Lengths
pub mod Ways
pub mod Fronts

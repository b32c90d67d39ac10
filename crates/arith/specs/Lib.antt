pub mod Told
pub mod Sizes
pub mod Ranges
pub mod Nearest
pub mod Distances
pub mod Operations
pub mod Examples

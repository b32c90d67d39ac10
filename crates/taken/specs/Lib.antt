pub mod Given
pub mod Taken
pub mod Ways

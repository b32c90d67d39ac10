pub mod Returns
pub mod Steps
pub mod Writes

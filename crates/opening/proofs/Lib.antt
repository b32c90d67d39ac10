pub mod Rows
pub mod Given
pub mod Entering
pub mod Leaving

pub mod Admitting
pub mod Yoking
pub mod Keeping
pub mod Replacing
pub mod Assigning
pub mod Changing
pub mod Readings

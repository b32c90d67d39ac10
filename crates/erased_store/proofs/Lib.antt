pub mod Seeing
pub mod Values
pub mod Keeping
pub mod Satisfying
pub mod Assigning
pub mod Instructions
pub mod Copying

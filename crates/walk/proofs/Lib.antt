pub mod Rows
pub mod Calling
pub mod Opened

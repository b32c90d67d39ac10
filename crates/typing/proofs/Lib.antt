pub mod Rows
pub mod Parts
pub mod Reading
pub mod Found
pub mod Returns

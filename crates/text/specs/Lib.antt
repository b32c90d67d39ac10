pub mod Appended
pub mod Line

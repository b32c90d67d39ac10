pub mod Checking
pub mod Naming

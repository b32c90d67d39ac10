pub mod Taking
pub mod Area
pub mod Ending

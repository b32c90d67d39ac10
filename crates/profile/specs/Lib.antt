pub mod Row
pub mod Known
pub mod Constants
pub mod Facts
pub mod Variables
pub mod Yokes
pub mod Find
pub mod Hundredths

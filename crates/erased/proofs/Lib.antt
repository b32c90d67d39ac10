pub mod Walking
pub mod Yokes
pub mod Testing

pub mod Walking
pub mod Yokes

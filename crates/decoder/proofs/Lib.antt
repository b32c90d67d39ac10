pub mod Counting
pub mod Scoped
pub mod Grouped
pub mod Runs
pub mod Decoding
pub mod Short
pub mod Constant

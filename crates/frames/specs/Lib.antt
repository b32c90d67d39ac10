pub mod Ways
pub mod Meaning
pub mod Kept
pub mod Begins
pub mod Lending

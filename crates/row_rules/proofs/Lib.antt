pub mod Forms
pub mod Pairing
pub mod Ranges

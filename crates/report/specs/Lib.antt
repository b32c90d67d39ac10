pub mod Call
pub mod Memory
pub mod Written

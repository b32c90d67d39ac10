pub mod Uses
pub mod Unrolled
pub mod Accepted
pub mod Types
pub mod Refusals
pub mod Calls

pub mod Giving
pub mod Operating
pub mod Seeing
pub mod Storing
pub mod Stacking
pub mod Cycle
pub mod Simple

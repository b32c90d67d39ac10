pub mod Leaving
pub mod Telling
pub mod Storing
pub mod OneCell
pub mod Operating
pub mod Passing
pub mod Stacking
pub mod Cycle

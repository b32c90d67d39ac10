pub mod Settling
pub mod Scoping
pub mod Giving
pub mod Instructing
pub mod Wholes
pub mod Answering

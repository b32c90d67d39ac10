pub mod Encode
pub mod Walk
pub mod Find
pub mod Typed

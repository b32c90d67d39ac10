pub mod Refusing
pub mod Taking
pub mod Beginning
pub mod Calling

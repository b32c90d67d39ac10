pub mod Stack
pub mod Operands
pub mod Word
pub mod Numeric

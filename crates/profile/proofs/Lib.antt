pub mod Decoding
pub mod Packing
pub mod ConstantCells
pub mod Declaring
pub mod Agreeing
pub mod Finding

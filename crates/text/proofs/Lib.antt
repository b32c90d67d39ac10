pub mod Texts
mod Decimals
mod Cells
mod Names

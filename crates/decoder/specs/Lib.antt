pub mod Tables
pub mod Headers
pub mod Decoded
pub mod Reads
pub mod Mentions

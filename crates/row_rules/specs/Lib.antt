pub mod Form
pub mod Range

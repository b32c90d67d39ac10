pub mod Refers
pub mod Calling
pub mod Usage
pub mod Reading
pub mod Lowest
pub mod TypePlaces
pub mod TypeRows

pub mod Written
pub mod Read
pub mod RoundTrip

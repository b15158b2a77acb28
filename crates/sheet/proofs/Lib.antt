pub mod Formed
pub mod Written
pub mod Answered
pub mod RoundTrip

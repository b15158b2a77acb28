pub mod Checked
pub mod Ended
pub mod Opens
pub mod Written

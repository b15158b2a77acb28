pub mod Kind
pub mod Places
pub mod Filled
pub mod Written

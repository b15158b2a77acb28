pub mod Places
pub mod Numbers
pub mod Fits
pub mod ByColumn
pub mod Line
pub mod Numeral
pub mod Digits

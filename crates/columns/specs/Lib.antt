-- A number in columns.
pub mod Digits
pub mod Columns
pub mod Worked
pub mod Parts

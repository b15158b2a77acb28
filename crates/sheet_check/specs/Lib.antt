-- What the program says of a sheet.
pub mod Verdict
pub mod Opening

-- Theorems about the definitions of specs/, and what functions' proofs cite.
pub mod Ended
pub mod Fits
pub mod Printable
pub mod Refusals
pub mod Rows
pub mod Budget
pub mod Words
pub mod Play

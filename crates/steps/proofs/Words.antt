-- Theorems about the definitions of specs/Words.antt.
pub mod Batches
pub mod Calls
pub mod Openings
pub mod Taken
pub mod Tapes

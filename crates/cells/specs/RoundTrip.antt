-- What is written for a row's words reads back, and what is read is what would be written.
pub mod U64
pub mod Pieces
pub mod Cells

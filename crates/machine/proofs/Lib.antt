-- Lemmas of plain lists and floats that the functions' proofs cite.
mod Rows
mod Walk

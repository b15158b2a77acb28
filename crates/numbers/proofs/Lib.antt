-- What the proofs of this crate cite of plain numbers and floats.
mod Rounded
pub mod Fraction
pub mod Round

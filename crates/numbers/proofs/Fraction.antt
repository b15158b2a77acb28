-- Theorems about the definitions of specs/Fraction.antt.
pub mod Laws

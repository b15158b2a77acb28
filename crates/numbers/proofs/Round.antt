-- Theorems about the definitions of specs/Round.antt.
pub mod Laws

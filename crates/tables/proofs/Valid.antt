-- Theorems about the definitions of specs/Valid.antt.
pub mod Laws

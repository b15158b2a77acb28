-- Theorems about the definitions of specs/Play.antt.
pub mod Laws

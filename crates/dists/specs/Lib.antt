-- A distribution and what is drawn from it, as functions on lists of words and of draws.
pub mod Dist
pub mod Uniform

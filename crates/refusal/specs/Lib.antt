-- Refusals and their numbers.
pub mod Refusal

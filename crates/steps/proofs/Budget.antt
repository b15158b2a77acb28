-- Theorems about the definitions of specs/Budget.antt.
pub mod Batches
pub mod Check
pub mod Counts
pub mod Invariant
pub mod Kinds
pub mod Machine
pub mod Opening
pub mod Reached
pub mod Rows
pub mod Runs
pub mod Theorem
pub mod Turns

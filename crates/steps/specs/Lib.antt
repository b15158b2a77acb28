-- The steps of framework.rs, from the inside out; the laws of what they keep; what a batch writes and refuses; the padding budgets; the ended number.
pub mod Limits
pub mod Transition
pub mod Events
pub mod Framework
pub mod Words
pub mod Play
pub mod Runs
pub mod Draws
pub mod Walk
pub mod Machines
pub mod Targets
pub mod Budget
pub mod Example
pub mod Cases
pub mod Worked

-- Which refusal a row of transitions gets.
pub mod First
pub mod Row
pub mod Marks

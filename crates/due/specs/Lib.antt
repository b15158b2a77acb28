-- The rows of a batch in the order in which they fall due (document 02, job 2).
pub mod Order
pub mod Sort
pub mod Due
pub mod Places

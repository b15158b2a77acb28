-- The tables as a text, and what reading and writing it answers (document 02, job 1).
pub mod Sheet
pub mod Writer
pub mod Reader
pub mod Steps

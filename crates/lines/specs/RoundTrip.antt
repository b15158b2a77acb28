-- What is written for a row or a table reads back, and what is read is what would be written.
pub mod Lines
pub mod Tables

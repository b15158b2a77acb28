pub mod Chunks
mod Rows
mod Bits
mod Targets
mod Words

pub mod Behind
pub mod Inserted
pub mod Few
pub mod Merged
pub mod Halves
pub mod Placed
pub mod Laws

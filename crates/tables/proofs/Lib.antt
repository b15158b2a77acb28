pub mod Dists
pub mod Parts
pub mod Valid

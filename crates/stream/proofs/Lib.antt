pub mod Clip
pub mod Chances
pub mod Loaded

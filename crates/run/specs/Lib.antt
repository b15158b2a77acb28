-- The printed run as a definition on its input.
pub mod Run
pub mod Fits

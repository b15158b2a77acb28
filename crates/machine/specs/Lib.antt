-- What the lent tables hold, as functions on lists of words.
pub mod Constants
pub mod Event
pub mod Source
pub mod Words
pub mod State
pub mod Tables
pub mod Part
pub mod Same

-- What actions and counters draw, as functions on lists of words and of draws.
pub mod Counter
pub mod Action

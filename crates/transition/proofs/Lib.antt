-- Laws that the proofs of `transition` cite.
pub mod Counters

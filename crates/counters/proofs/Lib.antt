-- Laws that the proofs of `counters` cite.
pub mod Counters

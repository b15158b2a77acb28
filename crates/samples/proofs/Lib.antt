-- What functions' proofs cite: a lemma of floats.
mod Whole

-- What the contracts of `numbers` cite, beside the kit's IEEE 754, and the laws of it.
pub mod Finite
pub mod Fraction
pub mod Positive
pub mod Round
pub mod Saturating

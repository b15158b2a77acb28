-- What the contracts of `transition` cite beside the definitions of `steps`, and what its callers may use.
pub mod Transition
pub mod Short

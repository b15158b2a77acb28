-- What the contracts of `framework` cite beside the definitions of `steps`.
pub mod Answers

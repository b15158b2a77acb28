-- What the contracts of `moves` cite beside the definitions of `steps`.
pub mod Choice
pub mod Short

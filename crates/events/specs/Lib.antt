-- What the contracts of `events` say beside the definitions of `steps`.
pub mod Run

-- What the contracts of `counters` cite beside the definitions of `steps`.
pub mod Counter

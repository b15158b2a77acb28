-- The theorem over the calls that change the framework in place.
pub mod Budget

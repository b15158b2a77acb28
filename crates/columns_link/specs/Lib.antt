-- Numbers put in columns by a call.
pub mod Put

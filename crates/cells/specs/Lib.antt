-- Words in their columns.
pub mod Cells
pub mod Digits
pub mod Laws
pub mod RoundTrip

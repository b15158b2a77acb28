-- Which refusal the lent tables and the framework's fractions get, and what the tables are where they get none.
pub mod State
pub mod Machine
pub mod Framework
pub mod Valid

-- Whether anything in the tables is drawn outside.
pub mod Outside

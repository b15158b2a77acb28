-- The laws of the definitions of specs/Order.antt, Sort.antt, Places.antt and Due.antt.
pub mod Order
pub mod Sort
pub mod Places
pub mod Due

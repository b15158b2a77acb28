pub mod Stream
pub mod Within
pub mod Inside

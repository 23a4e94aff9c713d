pub mod Values
pub mod Objects

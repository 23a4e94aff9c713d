pub mod Sizes
pub mod Whole
pub mod Calls

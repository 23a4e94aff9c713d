pub mod Tally
pub mod Sizes

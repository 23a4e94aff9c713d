pub mod Rising
pub mod Halving
pub mod Members
pub mod Reach
pub mod Dotted
pub mod Searching
pub mod Attributes

pub mod Names
pub mod Values
pub mod Points

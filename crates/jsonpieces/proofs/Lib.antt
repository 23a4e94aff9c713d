pub mod Values
pub mod Names
pub mod Fronts
pub mod Points
pub mod Logs

pub mod Starts
pub mod Openings

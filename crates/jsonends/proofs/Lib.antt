pub mod Nests
pub mod Ends

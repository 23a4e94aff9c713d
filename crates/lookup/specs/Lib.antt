pub mod Paths
pub mod Dotted

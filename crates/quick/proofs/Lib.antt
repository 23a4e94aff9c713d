pub mod Paying
pub mod Arguments
pub mod Nodes

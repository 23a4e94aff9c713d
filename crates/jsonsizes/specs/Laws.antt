pub mod Leaves
pub mod Items
pub mod Tables

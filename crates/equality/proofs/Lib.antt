pub mod Alike
pub mod Joining
pub mod Cells
pub mod Hashing

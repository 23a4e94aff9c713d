pub mod Keeping
pub mod Cells

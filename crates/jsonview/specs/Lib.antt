pub mod Cells
pub mod Room
pub mod Filling
pub mod Showing

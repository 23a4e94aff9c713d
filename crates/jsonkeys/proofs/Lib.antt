pub mod Cells
pub mod Turns
pub mod Keys
pub mod Listed
pub mod Gathered

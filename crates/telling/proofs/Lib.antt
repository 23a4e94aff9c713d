pub mod Cells
pub mod Logs
pub mod Said
pub mod Written

pub mod Logs
pub mod Seeing
pub mod Window
pub mod Written

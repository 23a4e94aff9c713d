pub mod Saturates
pub mod Reading
pub mod Scaling

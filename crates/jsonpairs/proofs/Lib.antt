pub mod Members
pub mod Words
pub mod Turns

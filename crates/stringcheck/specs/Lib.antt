pub mod Mosts
pub mod Tables
pub mod Eight
pub mod Letters
pub mod Ranges

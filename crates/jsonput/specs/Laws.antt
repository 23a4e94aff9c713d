pub mod Strings
pub mod Numbers
pub mod Values

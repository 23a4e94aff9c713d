pub mod Asked
pub mod Strings
pub mod Refusals

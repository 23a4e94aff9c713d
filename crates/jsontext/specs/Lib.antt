pub mod Reading
pub mod Numbers
pub mod Strings
pub mod Values
pub mod Events
pub mod Examples

pub mod Beyond
pub mod Words
pub mod Choices
pub mod Records

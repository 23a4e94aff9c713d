pub mod Words
pub mod Encode
pub mod Join
pub mod Unsorted
pub mod Write
pub mod Read
pub mod Records

pub mod Valued
pub mod Members
pub mod Slots
pub mod Events

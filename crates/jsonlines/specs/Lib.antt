pub mod Entities
pub mod Fields
pub mod Events

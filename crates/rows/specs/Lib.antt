pub mod Table
pub mod Slots
pub mod Stack
pub mod Meters
pub mod Marks
pub mod Index
pub mod Laws

pub mod Apart
pub mod Names
pub mod Slots
pub mod Valued
pub mod Entries
pub mod Totals

pub mod Marks
pub mod Marking
pub mod Fields
pub mod Entries
pub mod NoLists

pub mod Triples
pub mod Naming
pub mod Entries
pub mod Whole
pub mod Lines

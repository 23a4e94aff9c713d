pub mod Sorted
pub mod Merges
pub mod Runs

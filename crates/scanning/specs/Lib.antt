pub mod Plans
pub mod Scans

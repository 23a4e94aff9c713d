pub mod Fields
pub mod Totals

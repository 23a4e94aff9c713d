pub mod Last
pub mod Plans

pub mod Fitted
pub mod Passes

pub mod Runs
pub mod Signs
pub mod Pairs
pub mod Forms

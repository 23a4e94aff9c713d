pub mod Filled
pub mod Put
pub mod Runs
pub mod Values
pub mod Laws

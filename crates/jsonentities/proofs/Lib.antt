pub mod Naming
pub mod Holding
pub mod Comparing
pub mod Keeping
pub mod Entering

pub mod Promises
pub mod Given
pub mod Theorems
pub mod CarriedTheorems

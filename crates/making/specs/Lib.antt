pub mod Made
pub mod Theorems
pub mod Examples

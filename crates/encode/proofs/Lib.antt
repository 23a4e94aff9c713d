pub mod Out
pub mod Laws
pub mod Theorems

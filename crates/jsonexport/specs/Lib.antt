pub mod Long
pub mod Laws
pub mod Whole
pub mod Call

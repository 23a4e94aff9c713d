pub mod Clear
pub mod Laws

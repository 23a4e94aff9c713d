pub mod Sort
pub mod Order

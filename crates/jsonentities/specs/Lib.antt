pub mod Order
pub mod Put
pub mod Lists
pub mod Sort

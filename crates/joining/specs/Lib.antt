pub mod Order
pub mod Fresh
pub mod Laws
pub mod Insert
pub mod Run
pub mod Guess

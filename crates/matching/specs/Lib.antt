pub mod Asking
pub mod Laws

pub mod Numbers
pub mod Decimals
pub mod Keys

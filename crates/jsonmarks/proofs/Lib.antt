pub mod Digests
pub mod Sets
pub mod Uppers
pub mod Parts
pub mod Keeps

pub mod Places
pub mod Cells
pub mod Hashes
pub mod Joined

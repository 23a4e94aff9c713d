pub mod Left
pub mod Few
pub mod Places

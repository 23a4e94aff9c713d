pub mod Told
pub mod Ahead
pub mod Spelling

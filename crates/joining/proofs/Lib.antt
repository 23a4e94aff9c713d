pub mod Moves
pub mod Texts
pub mod Rules
pub mod Runs
pub mod Guessing

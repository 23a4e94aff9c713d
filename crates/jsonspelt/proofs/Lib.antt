pub mod Characters
pub mod Going

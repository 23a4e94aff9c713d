pub mod Good
pub mod Run
pub mod Forms

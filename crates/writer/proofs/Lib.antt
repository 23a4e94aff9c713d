pub mod Rules
pub mod Bodies

pub mod Bodies
pub mod Import

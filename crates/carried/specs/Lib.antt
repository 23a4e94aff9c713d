pub mod Shows
pub mod Late
pub mod When

pub mod Laid
pub mod Asked
pub mod Looking
pub mod Downs
pub mod Showing

pub mod Asked
pub mod Given
pub mod RowsAsked
pub mod CarriedAsked
pub mod Unchecked

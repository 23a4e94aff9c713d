pub mod Comparing
pub mod Leaves
pub mod Free
pub mod Fields
pub mod Events
pub mod Before

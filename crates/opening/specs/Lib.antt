pub mod Start
pub mod Opening

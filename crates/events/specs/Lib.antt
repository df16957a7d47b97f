pub mod Voice
pub mod Start

pub mod Bounds
pub mod Pitch
pub mod Start

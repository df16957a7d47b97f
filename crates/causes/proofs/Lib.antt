pub mod Formed
pub mod Passed
pub mod Tallies
pub mod Calming
pub mod Idle

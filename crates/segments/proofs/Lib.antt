pub mod Behind
pub mod Fours
pub mod Kept
pub mod Placed
pub mod Positions
pub mod Reading
pub mod Resting
pub mod Runs

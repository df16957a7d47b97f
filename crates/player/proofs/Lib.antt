pub mod Pitches
pub mod Within
pub mod Starts

pub mod Starts
pub mod Run

pub mod Starting
pub mod Kept
pub mod Split

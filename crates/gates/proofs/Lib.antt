pub mod Turns
pub mod Gates
pub mod Enough
pub mod Edges

pub mod Source
pub mod Ahead
pub mod Segment
pub mod Plain

pub mod Seats
pub mod Gate
pub mod Mix

pub mod Kept
pub mod Places
pub mod Seating
pub mod Passing
pub mod Lending
pub mod Tuning
pub mod Bands
pub mod Keeping

pub mod Rates
pub mod Facts

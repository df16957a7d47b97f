pub mod Fits
pub mod Looking

pub mod Words
pub mod Parts
pub mod Finite
pub mod Checks
pub mod Curves
pub mod Lookups
pub mod Binding
pub mod Bound

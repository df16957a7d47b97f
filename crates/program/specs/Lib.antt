pub mod Region
pub mod Valid
pub mod Sample
pub mod Bind
pub mod Lookup
pub mod Curve

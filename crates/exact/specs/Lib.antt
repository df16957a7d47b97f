pub mod Value
pub mod Narrow
pub mod Integral
pub mod Root
pub mod Order
pub mod Random
pub mod Single

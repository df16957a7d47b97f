pub mod Fraction
pub mod Power
pub mod Kernel
pub mod Promise
pub mod Hyperbolic
pub mod Logarithm
pub mod Trigonometric
pub mod Functions

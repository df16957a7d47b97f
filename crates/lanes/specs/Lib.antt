pub mod Four
pub mod NoSums

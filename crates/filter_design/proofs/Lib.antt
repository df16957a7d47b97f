pub mod Built
pub mod Long

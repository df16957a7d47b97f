pub mod Off
pub mod Gate

pub mod Choosing
pub mod Laws
pub mod Apart

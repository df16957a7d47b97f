pub mod Fields
pub mod Desk
pub mod Rows
pub mod Block
pub mod Print

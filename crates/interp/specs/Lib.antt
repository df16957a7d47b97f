pub mod Position
pub mod Points
pub mod Span
pub mod Sinc
pub mod Read
pub mod Places
pub mod Nothing

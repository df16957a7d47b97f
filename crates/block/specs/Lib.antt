pub mod Inputs
pub mod Render
pub mod Block
pub mod Calm
pub mod Next
pub mod Ready

pub mod Tests
pub mod Others
pub mod Quiet
pub mod Calm

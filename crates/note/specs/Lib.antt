pub mod Note
pub mod Choice

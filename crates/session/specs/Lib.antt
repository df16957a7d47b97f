pub mod Lists
pub mod Records
pub mod Rules
pub mod State
pub mod Tests
pub mod Offs
pub mod Changes

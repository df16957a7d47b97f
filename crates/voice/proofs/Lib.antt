pub mod Refusals
pub mod Numbers
pub mod Tied
pub mod Calming
pub mod Idle

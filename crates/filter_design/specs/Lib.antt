pub mod Cookbook
pub mod Slots

pub mod Splitting
pub mod Numerals
pub mod Printing
pub mod Tables

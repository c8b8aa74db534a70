pub mod Splitting
pub mod Numerals

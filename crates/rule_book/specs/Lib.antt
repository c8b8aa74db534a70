pub mod Events
pub mod Meaning
pub mod Adds
pub mod Terms
pub mod Marking
pub mod Ruling

pub mod Answering
pub mod Telling

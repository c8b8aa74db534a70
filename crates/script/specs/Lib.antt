pub mod Numbers
pub mod Words
pub mod Arguments
pub mod Lines
pub mod Spelling
pub mod Mistakes

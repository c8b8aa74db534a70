pub mod Limits
pub mod Statements
pub mod Books
pub mod Spelling
pub mod Following
pub mod Loads

pub mod Lex
pub mod Runs
pub mod Seen
pub mod Ahead

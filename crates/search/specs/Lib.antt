pub mod Limits
pub mod Links
pub mod Answer

pub mod Limits
pub mod Keywords
pub mod Formulas
pub mod Grammar
pub mod Follow

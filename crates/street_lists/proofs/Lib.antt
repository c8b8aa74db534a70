pub mod Totals
pub mod Walks

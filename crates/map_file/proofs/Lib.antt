pub mod Firsts
pub mod Numbers
pub mod Faults
pub mod Fields
pub mod Holds
pub mod Stated
pub mod Decoded
pub mod Encoding

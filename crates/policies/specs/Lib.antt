pub mod Limits
pub mod Places
pub mod Automaton
pub mod Stops
pub mod Stopping
pub mod Both
pub mod Pairing

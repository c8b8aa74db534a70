pub mod Turns
pub mod SpellingWords
pub mod SpellingRules
pub mod SpellingSound
pub mod SpellingComplete
pub mod Loaded

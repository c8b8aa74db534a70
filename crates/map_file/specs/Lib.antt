pub mod Format
pub mod Reading
pub mod Sound
pub mod Files

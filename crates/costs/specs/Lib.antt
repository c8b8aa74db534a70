pub mod Limits
pub mod Kind
pub mod Walk
pub mod Seconds
pub mod Climb
pub mod Laws

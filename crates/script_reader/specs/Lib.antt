pub mod Drafts
pub mod Reading
pub mod Laws
pub mod Lending

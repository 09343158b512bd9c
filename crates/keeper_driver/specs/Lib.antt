pub mod Drafts
pub mod Pinning

pub mod Deciding
pub mod Steps

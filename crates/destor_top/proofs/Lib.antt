pub mod Reaching
pub mod Scrubs

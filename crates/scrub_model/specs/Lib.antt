pub mod Words
pub mod Scrubbing

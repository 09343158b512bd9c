pub mod Ascending
pub mod Staying
pub mod Readings
pub mod Steps
pub mod Turns

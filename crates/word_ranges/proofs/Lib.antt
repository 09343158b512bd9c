pub mod Ranges
pub mod Commands
pub mod Lines
pub mod Fills

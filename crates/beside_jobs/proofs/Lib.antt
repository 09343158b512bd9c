pub mod Fed
pub mod Beside
pub mod Lines

pub mod Settings
pub mod Damages
pub mod Parts
pub mod Names

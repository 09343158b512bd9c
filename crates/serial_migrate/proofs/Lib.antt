pub mod Alike
pub mod Counts
pub mod Ones
pub mod Steps
pub mod Stores

pub mod Views
pub mod Planning
pub mod Feeding

pub mod Sent
pub mod Entry
pub mod Started

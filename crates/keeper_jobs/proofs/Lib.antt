pub mod Seeing
pub mod NewNames
pub mod Rooms
pub mod Tables
pub mod Commits
pub mod Written

pub mod Copied
pub mod Covered
pub mod Runs
pub mod Steps
pub mod Waiting
pub mod Written

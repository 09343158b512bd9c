pub mod Jobs
pub mod Puts
pub mod Commits

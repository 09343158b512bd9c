pub mod Lists
pub mod Marking
mod Taking
mod Stepping
pub mod Callers

mod Counting
pub mod Naming
mod Keeping
mod Taking
mod Stepping
pub mod Callers

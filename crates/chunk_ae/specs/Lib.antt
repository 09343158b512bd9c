pub mod Held
pub mod Scans

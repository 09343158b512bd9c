mod Pinning
pub mod Callers

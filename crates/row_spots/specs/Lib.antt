pub mod Spots
pub mod Offsets

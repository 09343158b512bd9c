pub mod Sealing
pub mod Reading

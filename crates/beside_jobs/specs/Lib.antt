pub mod Under
pub mod Beside

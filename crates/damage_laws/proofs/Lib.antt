pub mod Elements
pub mod Unique
pub mod Undamaged

pub mod Opened
pub mod Carried
pub mod Filling
pub mod Fields

pub mod Comparing
pub mod Whole

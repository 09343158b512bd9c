pub mod Cleaning
pub mod Telling

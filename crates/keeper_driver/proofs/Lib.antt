pub mod Drafting
pub mod Ending
pub mod Holding

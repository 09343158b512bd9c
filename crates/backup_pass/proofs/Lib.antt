pub mod Decisions
pub mod Segments
pub mod Filling
pub mod Taking
pub mod Feeding
pub mod Ending

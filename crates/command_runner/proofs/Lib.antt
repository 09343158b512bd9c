pub mod Runs
pub mod Openings
pub mod Shows
pub mod Completes
pub mod Fills

pub mod Jobs
mod Lens
pub mod Chunks
pub mod Limits
pub mod Causes
pub mod Ends
pub mod Parts
pub mod Sparses
pub mod Rows
pub mod Concluding
pub mod Closes
mod Recipes

pub mod Loads
pub mod Feeds
pub mod Starts
pub mod Closes
pub mod Plans
pub mod Refusals

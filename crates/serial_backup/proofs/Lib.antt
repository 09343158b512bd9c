pub mod Passes
pub mod Feeding
pub mod Ends
pub mod Starts

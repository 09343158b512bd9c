pub mod Flows
pub mod Handing
pub mod Fills
pub mod Backs
pub mod Starts
pub mod Moved
pub mod Steps
pub mod Settles

pub mod Copying
pub mod Ends
pub mod Payloads
pub mod Progress
pub mod Writing

pub mod Loads
pub mod Leaves
pub mod Turns
pub mod Begins
pub mod Pinned

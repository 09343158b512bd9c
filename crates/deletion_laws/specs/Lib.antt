pub mod Deleting
pub mod Releasing
pub mod Removal

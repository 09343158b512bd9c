pub mod Removals
pub mod Deletes
pub mod Releases

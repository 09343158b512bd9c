pub mod Crashes
pub mod Deletes

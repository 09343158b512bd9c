pub mod Going
pub mod Restoring

pub mod Unbuilt
pub mod Going
pub mod Showing
pub mod Completes

pub mod Segments
pub mod Gathers
pub mod Later
pub mod Complete

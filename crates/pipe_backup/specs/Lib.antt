pub mod Sealing
pub mod Piping
pub mod Ending
pub mod Loading

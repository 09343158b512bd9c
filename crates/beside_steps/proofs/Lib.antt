pub mod Apart
pub mod Held
pub mod Going
pub mod Answered
pub mod Refused

pub mod Pauses
pub mod States
pub mod ThreadView

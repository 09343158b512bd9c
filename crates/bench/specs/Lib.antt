pub mod Relay
pub mod Row

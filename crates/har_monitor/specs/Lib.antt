pub mod Monitor
pub mod Used

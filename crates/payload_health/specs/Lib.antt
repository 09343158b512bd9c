pub mod Health
pub mod Findings

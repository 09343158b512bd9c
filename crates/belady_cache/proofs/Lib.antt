pub mod Counts
pub mod Steps
pub mod Victim
pub mod Optimal
pub mod Same
pub mod Replaced
pub mod Uses
pub mod Planner

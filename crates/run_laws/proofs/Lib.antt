pub mod Earlier
pub mod Openings
pub mod OneLineRuns
pub mod Filled
pub mod MigrateRuns

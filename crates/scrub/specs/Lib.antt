pub mod Scrubbing
pub mod Walking
pub mod Standing

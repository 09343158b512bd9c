mod Seeing
mod Parts
mod Ranking
pub mod Callers

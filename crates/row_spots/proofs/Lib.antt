mod Building
mod Fitting
pub mod Callers

pub mod Numbers
pub mod Readings
pub mod Fits
pub mod Splits
pub mod ScriptLines
pub mod NameLemmas
pub mod Scripts
pub mod Fills

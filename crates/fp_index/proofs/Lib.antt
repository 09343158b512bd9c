mod Ids
mod Entries
pub mod Tables

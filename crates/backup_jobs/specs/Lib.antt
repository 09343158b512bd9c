pub mod Backup
pub mod Going

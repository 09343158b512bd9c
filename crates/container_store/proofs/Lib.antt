pub mod Along
pub mod TableLemmas
pub mod TableField
pub mod Apart

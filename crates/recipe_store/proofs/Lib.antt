pub mod PlainField
pub mod Apart

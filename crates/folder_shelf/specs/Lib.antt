pub mod FileNames
pub mod Silent

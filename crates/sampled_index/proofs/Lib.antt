pub mod Looking
pub mod LookRows

pub mod Present

mod Pushing
pub mod Shapes

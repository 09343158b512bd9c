pub mod Reading
pub mod Recipes

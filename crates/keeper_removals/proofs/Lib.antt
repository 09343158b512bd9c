pub mod Gone
pub mod Recipes
pub mod Released
pub mod Deleted
pub mod Cleaned

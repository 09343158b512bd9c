pub mod RunLemmas
pub mod RunLoop
pub mod RunField
pub mod RecipeField

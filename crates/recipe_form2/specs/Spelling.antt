-- Recipes that have a sum of their version.
use Rattle.std.specs.Prelude.{ℕ, List, IsSome}
use Rattle.vault_types.specs.declared.Recipe.{Recipe}
use Rattle.vault_types.specs.Blobs.{SpellsRecipe, IsRecipe}

-- a recipe that format 2 spells
pub record IsRecipe2 (r : Recipe) : Type 0 where
  pub rules : IsRecipe r
  pub whole : IsSome r.whole

-- the bytes spell this recipe of version v of set s, in format 2
pub record SpellsRecipe2 (s v : ℕ) (bytes : List ℕ) (r : Recipe) : Type 0 where
  pub spells : SpellsRecipe s v bytes r
  pub whole : IsSome r.whole

abbrev pub IsNoRecipe2 : ℕ → ℕ → List ℕ → Type 0
IsNoRecipe2 s v bytes = (r : Recipe) → SpellsRecipe2 s v bytes r → ⊥

-- What lines leave of the recipes.
use Rattle.std.specs.Prelude.{◌≡◌, ℕ, Option, Some, None}
use Rattle.vault_types.specs.State.{State, KeptVersion, version_of}
use Rattle.vault_types.specs.Shelf.{Blobs, blob_at, recipe_name}
use Rattle.vault_types.specs.RecipeForms.{IsSecond}

-- each version that is kept before and behind keeps its recipe as it was, and that of each other
-- one is in the second format
pub record KeepsForms (S T : State) (old new : Option Blobs) : Type 0 where
  pub stay : (s v : ℕ) (j k : KeptVersion) → version_of S s v ≡ Some j → version_of T s v ≡ Some k
      → blob_at new (recipe_name s v) ≡ blob_at old (recipe_name s v)
  pub made : (s v : ℕ) (k : KeptVersion) → version_of S s v ≡ None → version_of T s v ≡ Some k
      → IsSecond new s v k

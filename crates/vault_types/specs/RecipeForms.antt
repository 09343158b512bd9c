-- Recipes that stay, and recipes in the second format.
use Rattle.std.specs.Prelude.{◌≡◌, ◌<◌, ℕ, length, Option, Some}
use Rattle.vault_types.specs.State.{State, KeptVersion, version_of, recipe_of}
use Rattle.vault_types.specs.Blobs.{recipe_bytes_2}
use Rattle.vault_types.specs.Shelf.{Blobs, blob_at, recipe_name}

-- the recipe of each version that the state keeps is as it was
abbrev pub KeepsRecipes : State → Option Blobs → Option Blobs → Type 0
KeepsRecipes S old new =
    (s v : ℕ) (k : KeptVersion) → s < length S.datasets → version_of S s v ≡ Some k
    → blob_at new (recipe_name s v) ≡ blob_at old (recipe_name s v)

-- the recipe of the version is spelled in the second format
abbrev pub IsSecond : Option Blobs → ℕ → ℕ → KeptVersion → Type 0
IsSecond told s v k = blob_at told (recipe_name s v) ≡ Some (recipe_bytes_2 k.sum (recipe_of s v k))

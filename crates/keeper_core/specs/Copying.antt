-- A pin with its recipe.
use Rattle.std.specs.Prelude.{◌≡◌, ℕ, List, [], ◌∷◌, Result, Ok, Err, IfOk, IsSome, Some, Contains}
use Rattle.vault_types.specs.declared.Fault.{Fault}
use Rattle.vault_types.specs.declared.Row.{Row}
use Rattle.vault_types.specs.declared.Spot.{Spot}
use Rattle.vault_types.specs.Blobs.{IsRecipe}
use Rattle.vault_types.specs.Bytes.{offset_of}
use Rattle.vault_types.specs.Tables.{Container}
use Rattle.vault_types.specs.State.{KeptVersion, version_of}
use Rattle.vault_types.specs.Events.{Core, Pin}
use Rattle.commit_laws.specs.Laws.{SaysVersion}
use Rattle.keeper_catalog.specs.View.{View, Keeps}
use Rattle.keeper_core.specs.declared.pinning.Pinned.{Pinned}
use Rattle.keeper_core.specs.declared.copying.PinnedRecipe.{PinnedRecipe}
use Rattle.keeper_core.specs.Calls.{Lists}
use Rattle.keeper_core.specs.Pins.{PinsVersion}

-- the pinned version alone
abbrev pub pinned_in : Result PinnedRecipe Fault → Result Pinned Fault
pinned_in (Ok p) = Ok p.pinned
pinned_in (Err f) = Err f

-- the spot is that of the row in the container that the pin lists, which has the row's fingerprint with its length
pub record IsSpotOf (pins : List Pin) (number : ℕ) (r : Row) (s : Spot) : Type 0 where
  pub id : s.id ≡ r.id
  pub len : s.len ≡ r.len
  pub there : (c : Container) → Lists pins number r.id c
      → Contains c.table.rows (record { fp = r.fp; len = r.len }) × (s.at ≡ offset_of c.table.rows r.fp)

abbrev pub AreSpotsOf : List Pin → ℕ → List Row → List Spot → Type 0
AreSpotsOf pins number [] [] = Unit {0}
AreSpotsOf pins number [] (s ∷ spots) = ⊥
AreSpotsOf pins number (r ∷ rows) [] = ⊥
AreSpotsOf pins number (r ∷ rows) (s ∷ spots) =
    IsSpotOf pins number r s × AreSpotsOf pins number rows spots

-- version n of the set is pinned, and its recipe is given
pub record PinsRecipe (s n : ℕ) (u v : View) (result : Result PinnedRecipe Fault) : Type 0 where
  pub pins : PinsVersion s n u v (pinned_in result)
  -- the recipe keeps the rules, and over a shelf that tells its blobs it says the version
  pub rules : IfOk result (λ p. IsRecipe p.recipe)
  pub says : IfOk result (λ p. IsSome u.told.blobs → (K : Core) (k : KeptVersion) → Keeps u K
      → version_of K.state s n ≡ Some k → SaysVersion p.recipe k)
  -- its whole is that of the pin, and the spots are those of its rows
  pub whole : IfOk result (λ p. p.recipe.whole ≡ p.pinned.whole)
  pub spots : IfOk result (λ p. (K : Core) → Keeps v K
      → AreSpotsOf K.pins p.pinned.no p.recipe.rows p.pinned.spots.items)

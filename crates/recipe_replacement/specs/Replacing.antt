-- The recipe of a kept version in format 2.
use Rattle.std.specs.Prelude.{◌≡◌, ◌<◌, length, Option, Some, IsSome}
use Rattle.vault_types.specs.declared.Fault.{Fault}
use Rattle.vault_types.specs.declared.Fault.TheVariants as fault
use Rattle.vault_types.specs.declared.Pending.{Pending}
use Rattle.vault_types.specs.declared.Pending.TheVariants as pending
use Rattle.vault_types.specs.declared.Recipe.{Recipe}
use Rattle.vault_types.specs.State.{State, KeptVersion, version_of, recipe_of, IsValid}
use Rattle.vault_types.specs.Shelf.{Blobs}

-- the state keeps a version of which the recipe says all, its sum too
pub record IsRecipeOf (S : State) (r : Recipe) : Type 0 where
  pub valid : IsValid S
  pub in_range : r.set < length S.datasets
  pub version : KeptVersion
  pub kept : version_of S r.set r.version ≡ Some version
  pub says : r ≡ recipe_of r.set r.version version

-- so where blobs are told
abbrev pub IsRecipeOfIfTold : Option Blobs → State → Recipe → Type 0
IsRecipeOfIfTold told S r = IsSome told → IsRecipeOf S r

-- a mending of the recipe's set is due where the shelf failed
abbrev pub waits_after : Fault → Recipe → Pending → Pending
waits_after (fault.StoreFault n) r waits = pending.FailedFor r.set
waits_after other r waits = waits

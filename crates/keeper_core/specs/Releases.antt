-- The release of a pin.
use Rattle.std.specs.Prelude.{◌≡◌, ◌⊎◌, ◌≤◌, ◌<◌, ◌+◌, ◌-◌, ◌^◌, ◌++◌, ℕ, List, length, Contains, IsSome}
use Rattle.vault_types.specs.declared.Name.{Name}
use Rattle.vault_types.specs.Shelf.{blob_at}
use Rattle.vault_types.specs.Events.{Core, IsNear, after_release}
use Rattle.vault_traits.specs.Crash.{LeavesNowIfTold, LeavesOnlyIfTold}
use Rattle.restore_pins.specs.Pins.{without_pin}
use Rattle.deletion_laws.specs.Releasing.{IsReleased}
use Rattle.keeper_catalog.specs.View.{View, Keeps}

-- the pin of this number is released
pub record Releases (no : ℕ) (u v : View) : Type 0 where
  -- the core after it is kept; no other pin goes, and no other blob changes
  pub releases : (K : Core) → Keeps u K → Keeps v (after_release no v.memo.strays K)
  pub pins : v.pins ≡ without_pin no u.pins
  pub others : (K : Core) → Keeps u K → (q : Name) → (IsReleased K no q → ⊥)
      → blob_at v.told.blobs q ≡ blob_at u.told.blobs q
  -- a crash at any moment leaves what it could leave before
  pub any_moment : (K : Core) → Keeps u K → LeavesNowIfTold u.told.history (IsNear K.state K.other)
      → LeavesOnlyIfTold u.told.history v.told.history (IsNear K.state K.other)
  -- each stray was one before or is a name that the pin alone held; none goes, and at most one comes for each removal
  -- that failed
  pub within : (K : Core) → Keeps u K → (q : Name) → Contains v.memo.strays q
      → Contains u.memo.strays q ⊎ IsReleased K no q
  pub few : v.told.faults < 2 ^ 64 - 1
      → length v.memo.strays + u.told.faults ≤ length u.memo.strays + v.told.faults
  pub added : (added : List Name) × (v.memo.strays ≡ u.memo.strays ++ added)
  -- the index, the job and what is due stay, a shelf that tells its blobs goes on, and nothing is got
  pub same : (v.index ≡ u.index) × (v.job ≡ u.job) × (v.pending ≡ u.pending)
  pub tells : IsSome u.told.blobs → IsSome v.told.blobs
  pub gets : v.told.gets ≡ u.told.gets
  pub later : u.told.faults ≤ v.told.faults

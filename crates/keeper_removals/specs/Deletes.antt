-- What the deletion of a set's versions does to the shelf, to the memory and to the index.
use Rattle.std.specs.Prelude.{◌≡◌, ◌⊎◌, ◌≤◌, ◌<◌, ◌+◌, ◌-◌, ◌^◌, ℕ, List, map, length, Contains, Result, IfOk, OnOk, OnErr, Some, None, IsSome}
use Rattle.vault_types.specs.declared.Fp.{Fp}
use Rattle.vault_types.specs.declared.Name.{Name}
use Rattle.vault_types.specs.declared.Fault.{Fault}
use Rattle.vault_types.specs.declared.Pending.TheVariants as pending
use Rattle.vault_types.specs.Delete.{delete, reclaimed_ids}
use Rattle.vault_types.specs.RecipeForms.{KeepsRecipes}
use Rattle.vault_types.specs.Shelf.{blob_at, recipe_name}
use Rattle.vault_types.specs.Events.{Core, IsNear, after_delete, after_refused, delete_change}
use Rattle.vault_traits.specs.Told.{ShelfTold}
use Rattle.vault_traits.specs.Crash.{LeavesNowIfTold, LeavesOnlyIfTold}
use Rattle.vault_traits.specs.Causes.{HasStoreFault}
use Rattle.fp_index.specs.Index.{IsIndexOf}
use Rattle.restore_pins.specs.Pins.{Listed}
use Rattle.state_laws.specs.Parts.{HeldIfTold}
use Rattle.keeper_catalog.specs.Catalog.{Memo, IsMemoOf, HasRoom}
use Rattle.deletion_laws.specs.Deleting.{IsDeleting, IsGone}
use Rattle.keeper_removals.specs.Removals.{Removing}

-- the deletion of the set's versions through n, under these pins: from the memory m to l, from these
-- entries of the index to the rest, and over a shelf that told this before and tells that now
pub record DeletesVersions (s n : ℕ) (pins : List Listed) (m l : Memo) (entries rest : List (Fp × List ℕ))
    (before now : ShelfTold) (result : Result ℕ Fault) : Type 0 where
  -- where it is done: how many containers lost their last name; the memory, the index and the shelf are those of the core
  -- after it
  pub removed : IfOk result (λ count. (K : Core) → Removing m entries pins K s n
      → count ≡ length (reclaimed_ids K.state (delete K.state s n)))
  pub memo : OnOk result ((K : Core) → Removing m entries pins K s n
      → IsMemoOf l (after_delete s n l.strays K))
  pub index : OnOk result ((K : Core) → Removing m entries pins K s n
      → IsIndexOf rest (map (λ c. c.table) (delete K.state s n).containers))
  pub held : OnOk result ((K : Core) → Removing m entries pins K s n → HeldIfTold before.blobs K
      → HeldIfTold now.blobs (after_delete s n l.strays K))
  -- a refusal leaves the memory, and the floor may be written
  pub as_before : OnErr result ((l ≡ m) × (rest ≡ entries))
  pub half : OnErr result ((K : Core) → Removing m entries pins K s n → HeldIfTold before.blobs K
      → HeldIfTold now.blobs
      (after_refused (Some (delete_change s n K.state)) None K.strays (pending.FailedFor s) K))
  -- each recipe that is kept behind it is as it was; a refusal leaves all
  pub recipes : OnOk result (IsSome before.blobs → (K : Core) → Removing m entries pins K s n
      → HeldIfTold before.blobs K → KeepsRecipes (delete K.state s n) before.blobs now.blobs)
  pub all_recipes : OnErr result ((t v : ℕ)
      → blob_at now.blobs (recipe_name t v) ≡ blob_at before.blobs (recipe_name t v))
  -- a crash at any moment leaves the state from before or the one after: where it is done only the one after, and in a
  -- refused deletion only the one from before or the floor that was tried
  pub refused_moment : OnErr result ((K : Core) → Removing m entries pins K s n
      → LeavesNowIfTold before.history (IsNear K.state None)
      → LeavesOnlyIfTold before.history now.history (IsNear K.state (Some (delete_change s n K.state))))
  pub any_moment : (K : Core) → Removing m entries pins K s n → HeldIfTold before.blobs K
      → LeavesNowIfTold before.history (IsNear K.state None)
      → LeavesOnlyIfTold before.history now.history (IsDeleting K.state s n)
  pub acknowledged : OnOk result ((K : Core) → Removing m entries pins K s n → HeldIfTold before.blobs K
      → LeavesNowIfTold before.history (IsNear K.state None)
      → LeavesNowIfTold now.history (IsNear (delete K.state s n) None))
  -- each stray was one before or is a name that goes, and at most one is left for each failure
  pub within : OnOk result ((K : Core) → Removing m entries pins K s n → (q : Name) → Contains l.strays q
      → Contains m.strays q ⊎ IsGone K s n q)
  pub few : OnOk result (now.faults < 2 ^ 64 - 1 → length l.strays + before.faults ≤ now.faults)
  pub room : HasRoom l
  pub tells : IsSome before.blobs → IsSome now.blobs
  pub gets : now.gets ≡ before.gets
  pub causes : HasStoreFault before.faults now.faults result

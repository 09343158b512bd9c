-- The mending that comes before a change of a set.
use Rattle.std.specs.Prelude.{◌≡◌, ◌≢◌, ◌≤◌, ℕ, Result, OnOk, OnErr, IsSome, None}
use Rattle.vault_types.specs.declared.Fault.{Fault}
use Rattle.vault_types.specs.declared.Pending.TheVariants as pending
use Rattle.vault_types.specs.State.{latest_of}
use Rattle.vault_types.specs.Shelf.{blob_at, recipe_name}
use Rattle.vault_types.specs.Events.{Core, IsNear, after_mend}
use Rattle.vault_traits.specs.Crash.{LeavesNowIfTold, LeavesOnlyIfTold}
use Rattle.vault_traits.specs.Causes.{HasStoreFault}
use Rattle.keeper_catalog.specs.View.{View, Keeps, HasCore}

-- what a refused write may have left is taken back, where that is due
pub record MendsFirst {T : Type 0} (u v : View) (result : Result T Fault) : Type 0 where
  -- where it is done nothing is due any more; a refusal leaves the core, and it is still due
  pub ok : OnOk result ((K : Core) → Keeps u K → Keeps v (after_mend K.strays K))
  pub err : OnErr result ((K : Core) → Keeps u K → Keeps v K)
  pub over : OnOk result (v.pending ≡ pending.Not)
  pub waits : OnErr result (v.pending ≡ u.pending)
  -- a crash at any moment leaves what it could leave before; behind a mending that was due and done only the state
  pub any_moment : (K : Core) → Keeps u K → LeavesNowIfTold u.told.history (IsNear K.state K.other)
      → LeavesOnlyIfTold u.told.history v.told.history (IsNear K.state K.other)
  pub acknowledged : OnOk result (u.pending ≢ pending.Not → (K : Core) → Keeps u K
      → LeavesNowIfTold v.told.history (IsNear K.state None))
  -- the recipes that are kept stay, and so does all in memory
  pub recipes : (K : Core) → Keeps u K → (s n : ℕ) → n ≤ latest_of K.state s
      → blob_at v.told.blobs (recipe_name s n) ≡ blob_at u.told.blobs (recipe_name s n)
  pub memo : v.memo ≡ u.memo
  pub index : v.index ≡ u.index
  pub pins : v.pins ≡ u.pins
  pub job : v.job ≡ u.job
  -- some core was kept. The shelf tells its blobs behind it exactly where it did before
  pub core : HasCore u
  pub tells : IsSome u.told.blobs → IsSome v.told.blobs
  pub told : IsSome v.told.blobs → IsSome u.told.blobs
  pub gets : v.told.gets ≡ u.told.gets
  pub causes : HasStoreFault u.told.faults v.told.faults result

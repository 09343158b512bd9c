-- The commit of the open job.
use Rattle.std.specs.Prelude.{◌≡◌, ◌⊎◌, ◌++◌, ◌∷◌, [], ℕ, Result, IfErr, OnOk, IsSome, Some, None}
use Rattle.vault_types.specs.declared.Fault.{Fault}
use Rattle.vault_types.specs.declared.Fault.TheVariants as fault
use Rattle.vault_types.specs.declared.Recipe.{Recipe}
use Rattle.vault_types.specs.Blobs.{recipe_bytes}
use Rattle.vault_types.specs.RecipeForms.{KeepsRecipes}
use Rattle.vault_types.specs.Shelf.{recipe_name, Has}
use Rattle.vault_types.specs.Events.{Core, Job, IsNear, CanCommit, after_commit, committed, commit_change}
use Rattle.vault_traits.specs.Crash.{LeavesNowIfTold, LeavesOnlyIfTold}
use Rattle.vault_traits.specs.Causes.{HasCauses, IsUndamaged, fault_of}
use Rattle.commit_laws.specs.Laws.{AreStraysLeft}
use Rattle.keeper_parts.specs.declared.Halt.{Halt}
use Rattle.keeper_parts.specs.declared.Halt.TheVariants as halt
use Rattle.keeper_catalog.specs.View.{View, Keeps}
use Rattle.keeper_jobs.specs.Jobs.{version_by}
use Rattle.keeper_core.specs.Calls.{IsHalf, IsShelfFault, IsDue}

-- the fault of a commit that stopped, when the shelf had failed so often
abbrev pub halt_fault : ℕ → Halt → Fault
halt_fault faults (halt.Before why) = fault_of faults why
halt_fault faults halt.Half = fault.StoreFault faults

-- the commit of a recipe that the open job may commit
pub record CommitsJob {T : Type 0} (r : Recipe) (u v : View) (result : Result T Fault) : Type 0 where
  -- where it is done the core has the version; where it is refused the job is over, and where the shelf failed the set
  -- may have the version
  pub ok : OnOk result ((K : Core) (j : Job) → Keeps u K → CanCommit K j r
      → Keeps v (after_commit (version_by K j r) j v.memo.strays K))
  pub err : IfErr result (λ f. (K : Core) (j : Job) → Keeps u K → CanCommit K j r
      → IsHalf u v (commit_change (version_by K j r) j r K.state) None f K)
  -- the recipe's blob is its spelling, and each recipe that was kept is as it was
  pub spelled : OnOk result ((K : Core) (j : Job) → Keeps u K → CanCommit K j r
      → Has v.told.blobs (recipe_name r.set r.version) (Some (recipe_bytes r)))
  pub recipes : (K : Core) (j : Job) → Keeps u K → CanCommit K j r
      → KeepsRecipes K.state u.told.blobs v.told.blobs
  -- a crash at any moment leaves the state from before or the one after; where it is done only the one after
  pub any_moment : (K : Core) (j : Job) → Keeps u K → CanCommit K j r
      → LeavesNowIfTold u.told.history (IsNear K.state None)
      → LeavesOnlyIfTold u.told.history v.told.history
      (IsNear K.state (Some (commit_change (version_by K j r) j r K.state)))
  pub acknowledged : OnOk result ((K : Core) (j : Job) → Keeps u K → CanCommit K j r
      → LeavesNowIfTold v.told.history (IsNear (committed (version_by K j r) j K.state) None))
  pub due : IfErr result (λ f. IsDue f u.job u.pending v.pending)
  -- where it is done the job's names are no strays any more; where it is refused the recipe's name may be one more, if
  -- the shelf failed
  pub left : OnOk result ((K : Core) (j : Job) → Keeps u K → CanCommit K j r
      → AreStraysLeft u.memo.strays (recipe_name j.set r.version) j.containers v.memo.strays)
  pub strays : IfErr result (λ f. (v.memo.strays ≡ u.memo.strays)
      ⊎ ((v.memo.strays ≡ u.memo.strays ++ recipe_name r.set r.version ∷ []) × IsShelfFault f))
  -- the pins stay, a shelf that tells its blobs goes on, nothing is got, and each refusal has its cause
  pub tells : IsSome u.told.blobs → IsSome v.told.blobs
  pub pins : v.pins ≡ u.pins
  pub gets : v.told.gets ≡ u.told.gets
  pub causes : HasCauses u.told.faults v.told.faults IsUndamaged result

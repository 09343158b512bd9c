-- The deletion of a set's versions.
use Rattle.std.specs.Prelude.{◌≡◌, ◌⊎◌, ◌≤◌, ◌<◌, ◌+◌, ◌-◌, ◌^◌, ℕ, length, Result, Err, IfOk, IfErr, OnOk, OnErr, None, IsSome}
use Rattle.vault_types.specs.declared.Answer.{Answer}
use Rattle.vault_types.specs.declared.Fault.{Fault}
use Rattle.vault_types.specs.declared.Fault.TheVariants as fault
use Rattle.vault_types.specs.declared.Pending.TheVariants as pending
use Rattle.vault_types.specs.State.{latest_of}
use Rattle.vault_types.specs.Delete.{delete, removed}
use Rattle.vault_types.specs.RecipeForms.{KeepsRecipes}
use Rattle.vault_types.specs.Events.{Core, IsNear, after_delete, delete_change}
use Rattle.vault_traits.specs.Crash.{LeavesNowIfTold, LeavesOnlyIfTold}
use Rattle.deletion_laws.specs.Deleting.{IsDeleting}
use Rattle.keeper_catalog.specs.View.{View, Keeps}
use Rattle.keeper_core.specs.Calls.{IsHalf, IsStill, IsDeletionFault}

-- the deletion of the set's versions through n, between jobs
pub record DeletesThrough (s n : ℕ) (u v : View) (result : Result Answer Fault) : Type 0 where
  -- where it is done: the answer of the definition, and the core after it; a refusal leaves the core, or the new floor
  -- may be written
  pub ok : IfOk result (λ a. (K : Core) → Keeps u K
      → (n < latest_of K.state s) × (a ≡ removed K.state s n) × Keeps v (after_delete s n v.memo.strays K))
  pub err : IfErr result (λ f. (K : Core) → Keeps u K
      → IsStill u v K ⊎ IsHalf u v (delete_change s n K.state) None f K)
  -- where the version is not below the latest, that is the fault, and nothing is done; else the shelf failed
  pub still : (K : Core) → Keeps u K → latest_of K.state s ≤ n → v ≡ u
  pub last : (K : Core) → Keeps u K → latest_of K.state s ≤ n
      → result ≡ Err (fault.LastVersion s n (latest_of K.state s))
  pub cause : IfErr result (λ f. (K : Core) → Keeps u K
      → IsDeletionFault u.told.faults v.told.faults (latest_of K.state s ≤ n) f)
  pub later : u.told.faults ≤ v.told.faults
  -- whatever comes of it there is no job, and the pins stay; a refusal leaves what is in memory of the store, and a
  -- shelf that tells its blobs goes on
  pub same : (v.job ≡ None) × (v.pins ≡ u.pins)
  pub memo : IfErr result (λ f. v.memo ≡ u.memo)
  pub tells : IsSome u.told.blobs → IsSome v.told.blobs
  -- each recipe that is kept behind it is as it was
  pub recipes : OnOk result (IsSome u.told.blobs → (K : Core) → Keeps u K
      → KeepsRecipes (delete K.state s n) u.told.blobs v.told.blobs)
  pub all_recipes : OnErr result ((K : Core) → Keeps u K → KeepsRecipes K.state u.told.blobs v.told.blobs)
  -- a crash at any moment leaves what it could leave before, or the state before or behind the deletion; where it is
  -- done only the one behind it, whatever could be left before where a mending was due. No refusal ends a mending
  pub any_moment : (K : Core) → Keeps u K → LeavesNowIfTold u.told.history (IsNear K.state K.other)
      → LeavesOnlyIfTold u.told.history v.told.history (λ c. IsNear K.state K.other c
      ⊎ IsDeleting K.state s n c)
  pub acknowledged : OnOk result ((K : Core) → Keeps u K
      → (u.pending ≡ pending.Not → LeavesNowIfTold u.told.history (IsNear K.state K.other))
      → LeavesNowIfTold v.told.history (IsNear (delete K.state s n) None))
  pub due : OnErr result (v.pending ≡ pending.Not → u.pending ≡ pending.Not)
  -- at most one name is left for each removal that failed, and nothing is got
  pub few : OnOk result (v.told.faults < 2 ^ 64 - 1 → length v.memo.strays + u.told.faults ≤ v.told.faults)
  pub gets : v.told.gets ≡ u.told.gets

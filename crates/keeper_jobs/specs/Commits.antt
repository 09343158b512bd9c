-- What the commit of a recipe does to the shelf, to the memory and to the index.
use Rattle.std.specs.Prelude.{◌≡◌, ◌≢◌, ◌≤◌, ◌++◌, ◌∷◌, [], ℕ, List, map, Result, Err, OnOk, OnErr, IsSome, Some, None}
use Rattle.vault_types.specs.declared.Fp.{Fp}
use Rattle.vault_types.specs.declared.Name.{Name}
use Rattle.vault_types.specs.declared.Recipe.{Recipe}
use Rattle.vault_types.specs.declared.Pending.{Pending}
use Rattle.vault_types.specs.declared.Pending.TheVariants as pending
use Rattle.vault_types.specs.Blobs.{recipe_bytes}
use Rattle.vault_types.specs.Shelf.{blob_at, recipe_name, Has}
use Rattle.vault_types.specs.Events.{Core, Job, IsNear, after_commit, after_refused, committed, commit_change}
use Rattle.fp_index.specs.Index.{IsIndexOf}
use Rattle.vault_traits.specs.declared.names.Refused.{Refused}
use Rattle.vault_traits.specs.declared.names.Refused.TheVariants as refused
use Rattle.vault_traits.specs.Told.{ShelfTold}
use Rattle.vault_traits.specs.Counts.{Rose}
use Rattle.vault_traits.specs.Crash.{LeavesNowIfTold, LeavesOnlyIfTold}
use Rattle.commit_laws.specs.Laws.{AreStraysLeft}
use Rattle.state_laws.specs.Parts.{HeldIfTold}
use Rattle.keeper_catalog.specs.declared.JobInfo.{JobInfo}
use Rattle.keeper_catalog.specs.Catalog.{Memo, IsMemoOf, HasRoom}
use Rattle.keeper_parts.specs.declared.Halt.{Halt}
use Rattle.keeper_parts.specs.declared.Halt.TheVariants as halt
use Rattle.keeper_jobs.specs.Jobs.{Commits, version_by}

-- the commit of the job's recipe: from the memory m to l, from these entries of the index to the
-- rest, and over a shelf that told this before and tells that now
pub record CommitsRecipe {T : Type 0} (info : JobInfo) (r : Recipe) (m l : Memo)
    (entries rest : List (Fp × List ℕ)) (old new : ShelfTold) (result : Result T Halt) : Type 0 where
  -- where it is done the memory, the index and the shelf are those of the core after it
  pub memo : OnOk result ((K : Core) (j : Job) → Commits m entries info r K j
      → IsMemoOf l (after_commit (version_by K j r) j l.strays K))
  pub index : OnOk result ((K : Core) (j : Job) → Commits m entries info r K j
      → IsIndexOf rest (map (λ c. c.table) (committed (version_by K j r) j K.state).containers))
  pub held : OnOk result ((K : Core) (j : Job) → Commits m entries info r K j → HeldIfTold old.blobs K
      → HeldIfTold new.blobs (after_commit (version_by K j r) j l.strays K))
  -- the recipe's blob is its spelling, and no other blob changes
  pub spelled : OnOk result ((K : Core) (j : Job) → Commits m entries info r K j
      → Has new.blobs (recipe_name r.set r.version) (Some (recipe_bytes r)))
  pub others : (K : Core) (j : Job) → Commits m entries info r K j → (q : Name)
      → q ≢ recipe_name r.set r.version → blob_at new.blobs q ≡ blob_at old.blobs q
  -- a refusal leaves the state, and the job is over
  pub still : OnErr result ((K : Core) (j : Job) (waits : Pending) → Commits m entries info r K j
      → IsMemoOf l (after_refused None None l.strays waits K))
  pub same_index : OnErr result ((K : Core) (j : Job) → Commits m entries info r K j
      → IsIndexOf rest (map (λ c. c.table) K.state.containers))
  pub half : result ≡ Err halt.Half → (K : Core) (j : Job) → Commits m entries info r K j
      → HeldIfTold old.blobs K
      → HeldIfTold new.blobs
      (after_refused (Some (commit_change (version_by K j r) j r K.state)) None l.strays
      (pending.FailedFor info.set) K)
  pub before : (why : Refused) → result ≡ Err (halt.Before why) → (K : Core) (j : Job) (waits : Pending)
      → Commits m entries info r K j → HeldIfTold old.blobs K
      → HeldIfTold new.blobs (after_refused None None l.strays waits K)
  pub tells : IsSome old.blobs → IsSome new.blobs
  pub room : HasRoom l
  -- the job's names are no strays any more where it is done; the recipe's name is one where its put was tried
  pub left : OnOk result ((K : Core) (j : Job) → Commits m entries info r K j
      → AreStraysLeft m.strays (recipe_name j.set r.version) j.containers l.strays)
  pub as_before : (why : Refused) → result ≡ Err (halt.Before why) → l.strays ≡ m.strays
  pub tried : result ≡ Err halt.Half → l.strays ≡ m.strays ++ recipe_name r.set r.version ∷ []
  -- a crash at any moment leaves the state from before or the one after; where it is done only the one after, and where
  -- the recipe's put was not tried only the one from before
  pub any_moment : (K : Core) (j : Job) → Commits m entries info r K j → HeldIfTold old.blobs K
      → LeavesNowIfTold old.history (IsNear K.state None)
      → LeavesOnlyIfTold old.history new.history
      (IsNear K.state (Some (commit_change (version_by K j r) j r K.state)))
  pub acknowledged : OnOk result ((K : Core) (j : Job) → Commits m entries info r K j → HeldIfTold old.blobs K
      → LeavesNowIfTold new.history (IsNear (committed (version_by K j r) j K.state) None))
  pub untried : (why : Refused) → result ≡ Err (halt.Before why) → (K : Core) (j : Job)
      → Commits m entries info r K j → LeavesNowIfTold old.history (IsNear K.state None)
      → LeavesOnlyIfTold old.history new.history (IsNear K.state None)
  pub gets : new.gets ≡ old.gets
  pub later : old.faults ≤ new.faults
  pub failed_half : result ≡ Err halt.Half → Rose old.faults new.faults
  pub failed_before : result ≡ Err (halt.Before refused.Failed) → Rose old.faults new.faults

-- What the put of a job's next container does to the shelf and to the memory.
use Rattle.std.specs.Prelude.{◌≡◌, ◌⊎◌, ◌+◌, ◌++◌, ℕ, nat_eq, if◌then◌else◌, Result, OnOk, OnErr, IfSome, IsSome, Some}
use Rattle.vault_types.specs.declared.Fault.{Fault}
use Rattle.vault_types.specs.Tables.{Container}
use Rattle.vault_types.specs.Shelf.{HasContainer, blob_at, recipe_name}
use Rattle.vault_types.specs.Events.{Core, IsNear}
use Rattle.vault_traits.specs.Told.{ShelfTold}
use Rattle.vault_traits.specs.Crash.{LeavesNowIfTold, LeavesOnlyIfTold}
use Rattle.vault_traits.specs.Causes.{HasCauses, IsUndamaged}
use Rattle.state_laws.specs.Parts.{HeldIfTold, with_strays}
use Rattle.keeper_catalog.specs.declared.JobInfo.{JobInfo}
use Rattle.keeper_catalog.specs.Catalog.{Memo, table_at, HasRoom}
use Rattle.keeper_jobs.specs.Jobs.{names_of, Puts}

-- the put of the container: from the job and the memory m to the job behind it and to l, and over a
-- shelf that told this before and tells that now
pub record PutsSealed {T : Type 0} (c : Container) (job behind : JobInfo) (m l : Memo)
    (before now : ShelfTold) (result : Result T Fault) : Type 0 where
  -- where it is done the job and the memory have the container; a refusal leaves both
  pub done : OnOk result (behind ≡ record job { next = job.next + 1 })
  pub refused : OnErr result (behind ≡ job)
  pub tables : OnOk result ((id : ℕ)
      → table_at l.tables id ≡ (if nat_eq id c.table.id then Some c.table else table_at m.tables id))
  pub as_before : OnErr result ((id : ℕ) → table_at l.tables id ≡ table_at m.tables id)
  -- its two names may be strays; the sets and the markers stay
  pub strays : (l.strays ≡ m.strays) ⊎ (l.strays ≡ m.strays ++ names_of c.table.id)
  pub same : (l.sets ≡ m.sets) × (l.markers ≡ m.markers)
  pub room : HasRoom l
  -- the shelf has the container where it is done; it goes on holding what it held, and each recipe stays
  pub there : OnOk result (IfSome now.blobs (λ b. HasContainer b c))
  pub tells : IsSome before.blobs → IsSome now.blobs
  pub recipes : (s v : ℕ) → blob_at now.blobs (recipe_name s v) ≡ blob_at before.blobs (recipe_name s v)
  pub held : (K : Core) → Puts K m.strays c.table.id → HeldIfTold before.blobs K
      → HeldIfTold now.blobs (with_strays l.strays K)
  -- a crash at any moment leaves what it could leave before
  pub any_moment : (K : Core) → Puts K m.strays c.table.id
      → LeavesNowIfTold before.history (IsNear K.state K.other)
      → LeavesOnlyIfTold before.history now.history (IsNear K.state K.other)
  pub gets : now.gets ≡ before.gets
  pub causes : HasCauses before.faults now.faults IsUndamaged result

-- A kept version's recipe put again, in the second format.
use Rattle.std.specs.Prelude.{◌≡◌, ◌≢◌, ◌≤◌, ◌⊎◌, ℕ, Result, OnOk, OnErr, IfErr, IsSome, Option, Some, None}
use Rattle.vault_types.specs.declared.Fault.{Fault}
use Rattle.vault_types.specs.declared.Fault.TheVariants as fault
use Rattle.vault_types.specs.declared.Pending.{Pending}
use Rattle.vault_types.specs.declared.Pending.TheVariants as pending
use Rattle.vault_types.specs.State.{KeptVersion, latest_of, version_of, recipe_of}
use Rattle.vault_types.specs.Blobs.{recipe_bytes_2}
use Rattle.vault_types.specs.BlobDamage.{IsRecipeDamage}
use Rattle.vault_types.specs.Shelf.{recipe_name, blob_at, Has}
use Rattle.vault_types.specs.Events.{Core, Change, IsNear, after_mend, after_refused}
use Rattle.vault_traits.specs.Causes.{HasCauses}
use Rattle.vault_traits.specs.Crash.{LeavesNowIfTold, LeavesOnlyIfTold}
use Rattle.keeper_catalog.specs.View.{View, Keeps}

-- the state, the pins, the strays and the job stay; a change that was half done still is, or isn't any more
abbrev pub IsRefused : View → Core → Type 0
IsRefused v K =
    (other : Option Change) × Keeps v (after_refused other K.job K.strays v.pending K)
    × ((other ≡ None) ⊎ (other ≡ K.other))

-- whether a mending is due then: what was due still is, where the mending failed; nothing is, where
-- a read was refused or there was no memory; or one for the set, where a write failed
abbrev pub IsDueAfter : Fault → ℕ → Pending → Pending → Type 0
IsDueAfter (fault.StoreFault n) s before now =
    (now ≡ before) ⊎ ((now ≡ pending.Not) ⊎ (now ≡ pending.FailedFor s))
IsDueAfter other s before now = now ≡ pending.Not

-- version n of the set, which is kept, gets a recipe in format 2 with the sum of its bytes
pub record Replaces {T : Type 0} (s n : ℕ) (u v : View) (result : Result T Fault) : Type 0 where
  -- the version stays; where it is done the recipe's blob is the spelling with the sum
  pub ok : OnOk result ((K : Core) → Keeps u K → Keeps v (after_mend K.strays K))
  pub spelled : OnOk result ((K : Core) (k : KeptVersion) → Keeps u K → version_of K.state s n ≡ Some k
      → Has v.told.blobs (recipe_name s n) (Some (recipe_bytes_2 k.sum (recipe_of s n k))))
  pub err : OnErr result ((K : Core) → Keeps u K → IsRefused v K)
  -- in every case each other kept recipe stays, and this one does or is in format 2
  pub others : (K : Core) → Keeps u K → (t m : ℕ) → m ≤ latest_of K.state t
      → recipe_name t m ≢ recipe_name s n
      → blob_at v.told.blobs (recipe_name t m) ≡ blob_at u.told.blobs (recipe_name t m)
  pub own : (K : Core) (k : KeptVersion) → Keeps u K → version_of K.state s n ≡ Some k
      → (blob_at v.told.blobs (recipe_name s n) ≡ blob_at u.told.blobs (recipe_name s n))
      ⊎ (blob_at v.told.blobs (recipe_name s n) ≡ Some (recipe_bytes_2 k.sum (recipe_of s n k)))
  pub tells : IsSome u.told.blobs → IsSome v.told.blobs
  -- a crash at any moment leaves what it could leave before; where it is done only the state, and so where no mending
  -- is due behind the call
  pub any_moment : (K : Core) → Keeps u K → LeavesNowIfTold u.told.history (IsNear K.state K.other)
      → LeavesOnlyIfTold u.told.history v.told.history (IsNear K.state K.other)
  pub acknowledged : OnOk result ((K : Core) → Keeps u K
      → LeavesNowIfTold v.told.history (IsNear K.state None))
  pub settled : (K : Core) → Keeps u K
      → (u.pending ≡ pending.Not → LeavesNowIfTold u.told.history (IsNear K.state K.other))
      → v.pending ≡ pending.Not → LeavesNowIfTold v.told.history (IsNear K.state None)
  pub due : IfErr result (λ f. IsDueAfter f s u.pending v.pending)
  pub not_due : OnOk result (v.pending ≡ pending.Not)
  -- what is in memory stays, no payload is got, and each refusal has its cause
  pub same : (v.memo ≡ u.memo) × (v.index ≡ u.index) × (v.pins ≡ u.pins) × (v.job ≡ u.job)
  pub gets : v.told.gets ≡ u.told.gets
  pub causes : HasCauses u.told.faults v.told.faults (IsRecipeDamage u.told.blobs s n) result

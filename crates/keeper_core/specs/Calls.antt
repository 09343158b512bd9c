-- What the calls of a keeper give, and what a refusal leaves.
use Rattle.std.specs.Prelude.{◌≡◌, ◌⊎◌, ℕ, ◌+◌, ◌≤◌, false, List, map, Option, Some, None, IfSome, IsSome, IsSomeAnd, Contains, slice_get}
use Rattle.std.specs.List.{AllByRecursion}
use Rattle.vault_types.specs.declared.Fp.{Fp}
use Rattle.vault_types.specs.declared.Kind.{Kind}
use Rattle.vault_types.specs.declared.Kind.TheVariants as kind
use Rattle.vault_types.specs.declared.Row.{Row}
use Rattle.vault_types.specs.declared.Spot.{Spot}
use Rattle.vault_types.specs.declared.Table.{Table}
use Rattle.vault_types.specs.declared.Why.{Why}
use Rattle.vault_types.specs.declared.Why.TheVariants as why
use Rattle.vault_types.specs.declared.Fault.{Fault}
use Rattle.vault_types.specs.declared.Fault.TheVariants as fault
use Rattle.vault_types.specs.declared.Pending.{Pending}
use Rattle.vault_types.specs.declared.Pending.TheVariants as pending
use Rattle.keeper_catalog.specs.declared.JobInfo.{JobInfo}
use Rattle.vault_types.specs.Lists.{has}
use Rattle.vault_types.specs.Marks.{Mark, marked_ids}
use Rattle.vault_types.specs.Tables.{Container, payload_len}
use Rattle.vault_types.specs.Bytes.{spot_of, HasRow}
use Rattle.vault_types.specs.Shelf.{Blobs, recipe_name, Has}
use Rattle.vault_types.specs.BlobDamage.{IsRecipeDamage}
use Rattle.vault_types.specs.Blobs.{recipe_bytes_1, recipe_bytes_2}
use Rattle.vault_types.specs.State.{State, KeptVersion, latest_of, next_of, length_of, version_of, recipe_of}
use Rattle.vault_types.specs.Backup.{inherited_ids}
use Rattle.vault_types.specs.Events.{Core, Change, Job, Pin, IsNear, after_refused}
use Rattle.fp_index.specs.Index.{IsIndexOf}
use Rattle.vault_traits.specs.Counts.{Rose}
use Rattle.vault_traits.specs.Crash.{LeavesNowIfTold, LeavesOnlyIfTold}
use Rattle.keeper_catalog.specs.View.{View, Keeps}
use Rattle.row_spots.specs.declared.Unplaced.{Unplaced}
use Rattle.row_spots.specs.declared.Unplaced.TheVariants as unplaced
use Rattle.row_spots.specs.Spots.{HasPlace}
use Rattle.keeper_core.specs.declared.keeper.Begun.{Begun}

-- what a job is told at its beginning
pub record IsBegun (S : State) (s : ℕ) (b : Begun) : Type 0 where
  pub set : b.set ≡ s
  pub version : b.version ≡ latest_of S s + 1
  pub next : b.next ≡ next_of S
  pub sparse : b.sparse.items ≡ inherited_ids S s
  pub index : IsIndexOf b.index (map (λ c. c.table) S.containers)

-- the shelf failed
abbrev pub IsShelfFault : Fault → Type 0
IsShelfFault f = (n : ℕ) × (f ≡ fault.StoreFault n)

-- a mending is due for the set where the shelf failed
abbrev pub due_after : Fault → ℕ → Pending → Pending
due_after (fault.StoreFault n) s waits = pending.FailedFor s
due_after other s waits = waits

-- so for the set of the open job
abbrev pub IsDue : Fault → Option JobInfo → Pending → Pending → Type 0
IsDue f job before now = IfSome job (λ j. now ≡ due_after f j.set before)

-- after a refusal by the fault the state stays, and the job is as given; where the shelf failed, a
-- change may be half done. A crash at any moment of the call leaves the state, with what was half
-- done before or is half done now; one behind it only what is half done now
pub record IsHalf (u v : View) (h : Change) (job : Option Job) (f : Fault) (K : Core) : Type 0 where
  pub other : Option Change
  pub keeps : Keeps v (after_refused other job v.memo.strays v.pending K)
  pub half : (other ≡ None) ⊎ ((other ≡ Some h) × IsShelfFault f)
  pub any_moment : LeavesNowIfTold u.told.history (IsNear K.state K.other)
      → LeavesOnlyIfTold u.told.history v.told.history (λ c. IsNear K.state K.other c
      ⊎ IsNear K.state other c)
  pub behind : LeavesNowIfTold u.told.history (IsNear K.state K.other)
      → LeavesNowIfTold v.told.history (IsNear K.state other)

-- a refusal leaves the core as it was, and a crash at any moment of the call what it could leave before
pub record IsStill (u v : View) (K : Core) : Type 0 where
  pub keeps : Keeps v K
  pub any_moment : LeavesNowIfTold u.told.history (IsNear K.state K.other)
      → LeavesOnlyIfTold u.told.history v.told.history (IsNear K.state K.other)

-- why a deletion was refused: its version is the latest of its set or above it, or the shelf failed in it
abbrev pub IsDeletionFault : ℕ → ℕ → Type 0 → Fault → Type 0
IsDeletionFault before now IsLast (fault.LastVersion s n latest) = IsLast
IsDeletionFault before now IsLast (fault.StoreFault n) = (n ≡ now) × Rose before now
IsDeletionFault before now IsLast other = ⊥

-- a pin has the number, and lists the container of this id
pub record Lists (pins : List Pin) (number id : ℕ) (c : Container) : Type 0 where
  pub pin : Pin
  pub among : Contains pins pin
  pub has_number : pin.number ≡ number
  pub listed : Contains pin.containers c
  pub has_id : c.table.id ≡ id

-- the sum that a recipe gives is that of the kept version, and it is in the second format; one of
-- the first gives none
abbrev pub IsWholeOf : Option Blobs → ℕ → ℕ → KeptVersion → Option Fp → Type 0
IsWholeOf told s v k whole =
    ((whole ≡ Some k.sum) × Has told (recipe_name s v) (Some (recipe_bytes_2 k.sum (recipe_of s v k))))
    ⊎ ((whole ≡ None) × Has told (recipe_name s v) (Some (recipe_bytes_1 (recipe_of s v k))))

-- the pin lists the container of a spot, and the spot lies within its payload
abbrev pub HasListed : List Pin → ℕ → Spot → Type 0
HasListed pins number s =
    (c : Container) × Lists pins number s.id c × (s.at + s.len ≤ payload_len c.table.rows)

-- what a pin gives of its version
pub record IsPinned (S : State) (k : KeptVersion) (total : ℕ) (spots : List Spot)
    (whole : Option Fp) : Type 0 where
  pub bytes : total ≡ length_of k.rows
  pub spots_are : spots ≡ map (spot_of S.containers) k.rows
  pub rows : AllByRecursion (HasRow S.containers) k.rows
  pub sum : IfSome whole (λ w. w ≡ k.sum)

-- the container of a row is named by no version, or has no such chunk
abbrev pub IsUnplaced : List (ℕ × Table) → List Mark → Row → Type 0
IsUnplaced tables marks r = (has r.id (marked_ids marks) ≡ false) ⊎ (HasPlace tables r → ⊥)

-- the fault of a pin whose rows have no spots
abbrev pub unplaced_fault : ℕ → ℕ → Unplaced → Fault
unplaced_fault s v unplaced.Memory = fault.Memory
unplaced_fault s v (unplaced.BadRow i) = fault.Damaged kind.Recipe (recipe_name s v).number (why.BadRow i)

-- a row of the kept version is not in the table of its container with its length
abbrev pub IsBadRow : Option Blobs → State → ℕ → ℕ → ℕ → Type 0
IsBadRow told S s v i =
    IsSome told → (k : KeptVersion) → version_of S s v ≡ Some k
    → IsSomeAnd (slice_get k.rows i) (λ r. HasRow S.containers r → ⊥)

-- what the shelf's answer shows where a version can't be pinned
abbrev pub IsPinDamage : Option Blobs → State → ℕ → ℕ → Kind → ℕ → Why → Type 0
IsPinDamage told S s v kind.Recipe number (why.BadRow i) =
    (number ≡ (recipe_name s v).number) × IsBadRow told S s v i
IsPinDamage told S s v k number w = IsRecipeDamage told s v k number w

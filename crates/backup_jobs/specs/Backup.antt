-- A backup into a store.
use Rattle.std.specs.Prelude.{◌≡◌, ◌⊎◌, ◌≤◌, ◌<◌, ◌+◌, ◌*◌, ℕ, true, List, length, Contains, Option, None, IfSome, IsSome, IsSomeAnd, OnOk, IfOk, IfErr, Result, Err, Some}
use Rattle.vault_types.specs.declared.JobConfig.{JobConfig}
use Rattle.vault_types.specs.declared.Limits.{Limits}
use Rattle.vault_types.specs.declared.Name.{Name}
use Rattle.vault_types.specs.declared.Pending.{Pending}
use Rattle.vault_types.specs.declared.Pending.TheVariants as pending
use Rattle.vault_types.specs.declared.Fault.{Fault}
use Rattle.vault_types.specs.declared.Fault.TheVariants as fault
use Rattle.vault_types.specs.declared.Answer.{Answer}
use Rattle.vault_types.specs.Cuts.{cuts, settled}
use Rattle.vault_types.specs.State.{State, KeptVersion, IsValid, latest_of, next_of, is_full, version_of}
use Rattle.vault_types.specs.Backup.{backup, stored}
use Rattle.vault_types.specs.Shelf.{table_name, payload_name, recipe_name, Stands}
use Rattle.vault_types.specs.Events.{Core, Change, IsNear, after_refused}
use Rattle.vault_traits.specs.Told.{SourceTold, Gives, IsAtEnd}
use Rattle.vault_traits.specs.Crash.{LeavesNowIfTold, LeavesOnlyIfTold}
use Rattle.vault_traits.specs.Counts.{Rose}
use Rattle.vault_types.specs.RecipeForms.{IsSecond, KeepsRecipes}
use Rattle.keeper_catalog.specs.View.{View, Keeps}
use Rattle.keeper_core.specs.Calls.{IsShelfFault}

-- the number of a fault lies above the count before, and not above the count now
abbrev pub IsNumber : ℕ → ℕ → ℕ → Type 0
IsNumber before n now = Rose before n × (n ≤ now)

-- why a backup is refused that may be made, where these bytes were read: there are too many chunks
-- where so many have an end, where there are so many at the end, or where there are more bytes than
-- the limit of chunks can have
abbrev pub IsBackupFault : JobConfig → Limits → ℕ → ℕ → SourceTold → SourceTold → List ℕ → Fault → Type 0
IsBackupFault config limits before now from to read fault.Memory = Unit {0}
IsBackupFault config limits before now from to read (fault.StoreFault n) = IsNumber before n now
IsBackupFault config limits before now from to read (fault.ReadFault n) = IsNumber from.faults n to.faults
IsBackupFault config limits before now from to read (fault.TooMany n) =
    (n ≡ limits.chunks)
    × ((limits.chunks < length (settled read config.cutting))
    ⊎ ((IsAtEnd to × (limits.chunks < length (cuts read config.cutting)))
    ⊎ (limits.chunks * 65536 < length read)))
IsBackupFault config limits before now from to read other = ⊥

-- the refusal of a full set
abbrev pub full_fault : ℕ → State → Fault
full_fault s S = fault.Full s (latest_of S s) (next_of S)

-- why a backup is refused
abbrev pub IsCauseOf : ℕ → JobConfig → Limits → View → View → SourceTold → SourceTold → List ℕ → Core → Fault
    → Type 0
IsCauseOf s config limits v w from to read K f =
    ((is_full K.state s limits ≡ true) × (f ≡ full_fault s K.state))
    ⊎ IsBackupFault config limits v.told.faults w.told.faults from to read f

-- a table's or a payload's name, of an id from the first one on, at most so many
abbrev pub IsJobName : ℕ → ℕ → Name → Type 0
IsJobName first many n =
    (id : ℕ) × (first ≤ id) × (id < first + many) × ((n ≡ table_name id) ⊎ (n ≡ payload_name id))

-- the core after a backup: one version more, and no job
abbrev pub after_backup : ℕ → List ℕ → JobConfig → List Name → Pending → Core → Core
after_backup s x config strays waits K =
    record {
      state = backup K.state s x config;
      other = None;
      pins = K.pins;
      strays = strays;
      job = None;
      pending = waits;
    }

-- a write that may be on the shelf after a refusal: the one from before, where the source was not
-- read; none; or the new version, where the source was read to its end and the shelf failed
abbrev pub MayBeHalf : ℕ → JobConfig → List ℕ → SourceTold → SourceTold → Core → Fault → Option Change
    → Type 0
MayBeHalf s config read from to K f other =
    ((other ≡ K.other) × (to ≡ from))
    ⊎ ((other ≡ None)
    ⊎ (IsSomeAnd other (λ h. h.state ≡ backup K.state s read config) × IsAtEnd to × IsShelfFault f))

-- what may be a stray after a refusal: what was one before; a name of a container that the job may
-- have numbered; and the name of the version's recipe, where the shelf failed
abbrev pub MayBeStray : ℕ → Limits → View → Core → Fault → Name → Type 0
MayBeStray s limits v K f n =
    Contains v.memo.strays n
    ⊎ (IsJobName (next_of K.state) limits.chunks n
    ⊎ ((n ≡ recipe_name s (latest_of K.state s + 1)) × IsShelfFault f))

-- after a refusal the versions and the pins are as they were, and there is no job. A crash at any
-- moment leaves what it could leave before or with what is half done now, and one behind it only
-- the latter
pub record IsBackupRefused (s : ℕ) (config : JobConfig) (limits : Limits) (read : List ℕ) (v w : View)
    (from to : SourceTold) (K : Core) (f : Fault) : Type 0 where
  pub other : Option Change
  pub keeps : Keeps w (after_refused other None w.memo.strays w.pending K)
  pub half : MayBeHalf s config read from to K f other
  pub strays : (n : Name) → Contains w.memo.strays n → MayBeStray s limits v K f n
  pub any_moment : LeavesNowIfTold v.told.history (IsNear K.state K.other)
      → LeavesOnlyIfTold v.told.history w.told.history (λ c. IsNear K.state K.other c
      ⊎ IsNear K.state other c)
  pub behind : LeavesNowIfTold v.told.history (IsNear K.state K.other)
      → LeavesNowIfTold w.told.history (IsNear K.state other)
  pub settled : (v.pending ≡ pending.Not → LeavesNowIfTold v.told.history (IsNear K.state K.other))
      → w.pending ≡ pending.Not → LeavesNowIfTold w.told.history (IsNear K.state other)
  pub changed : IfSome K.other (λ h. IsValid h.state) → IfSome other (λ h. IsValid h.state)

-- a backup of what a source gives into a set of a store
pub record BacksUp (s : ℕ) (config : JobConfig) (limits : Limits) (v w : View) (from to : SourceTold)
    (result : Result Answer Fault) : Type 0 where
  -- the bytes that were read; all of them where it is done
  pub read : List ℕ
  pub given : Gives from.left to.left read
  -- at most as many as the limit of chunks can have, and one read more
  pub within : length read ≤ limits.chunks * 65536 + 65536
  pub to_the_end : OnOk result (IsAtEnd to)
  pub few : OnOk result (length (cuts read config.cutting) ≤ limits.chunks)
  -- where the set is full, it is refused, and nothing is done
  pub full : (K : Core) → Keeps v K → is_full K.state s limits ≡ true
      → (result ≡ Err (full_fault s K.state)) × (w ≡ v) × (to ≡ from)
  -- the answer is that of the definition, and each refusal has its cause
  pub answer : IfOk result (λ a. (K : Core) → Keeps v K → a ≡ stored K.state s read config)
  pub causes : IfErr result (λ f. (K : Core) → Keeps v K → IsCauseOf s config limits v w from to read K f)
  -- the store: with the version, where it is done, and else with those that it had
  pub done : OnOk result ((K : Core) → Keeps v K
      → Keeps w (after_backup s read config w.memo.strays w.pending K))
  pub refused : IfErr result (λ f. (K : Core) → Keeps v K
      → IsBackupRefused s config limits read v w from to K f)
  pub idle : w.job ≡ None
  pub pins : w.pins ≡ v.pins
  pub strays : OnOk result ((n : Name) → Contains w.memo.strays n → Contains v.memo.strays n)
  pub tells : IsSome v.told.blobs → IsSome w.told.blobs
  -- the recipes that were kept stay as they were, and that of a new version is in the second format
  pub recipes : (K : Core) → Keeps v K → KeepsRecipes K.state v.told.blobs w.told.blobs
  pub second : OnOk result (IsSome v.told.blobs → (K : Core) (k : KeptVersion) → Keeps v K
      → version_of (backup K.state s read config) s (latest_of K.state s + 1) ≡ Some k
      → IsSecond w.told.blobs s (latest_of K.state s + 1) k)
  pub gets : w.told.gets ≡ v.told.gets
  pub store_later : v.told.faults ≤ w.told.faults
  pub source_later : from.faults ≤ to.faults
  -- where a crash before could leave only this store, one at any moment leaves it or the one after the
  -- backup; at Ok only that, whatever it could leave before
  pub crash : (K : Core) → Keeps v K → LeavesNowIfTold v.told.history (IsNear K.state K.other)
      → LeavesOnlyIfTold v.told.history w.told.history (λ c. IsNear K.state K.other c
      ⊎ Stands c (backup K.state s read config))
  pub crash_after : OnOk result ((K : Core) → Keeps v K
      → LeavesNowIfTold w.told.history (λ c. Stands c (backup K.state s read config)))

-- Recipes that are put again in the second format, which has the sum of the version's bytes.
use Rattle.std.specs.Prelude.{◌≡◌, ◌⊎◌, ◌<◌, ◌≤◌, ◌+◌, ℕ, zero, suc, Bool, true, false, IsTrue, List, [], ◌∷◌, ◌++◌, length, Option, Some, None, IfOk, Result, IsSomeAnd}
use Rattle.vault_types.specs.declared.Kind.{Kind}
use Rattle.vault_types.specs.declared.Kind.TheVariants as kind
use Rattle.vault_types.specs.declared.Name.{Name}
use Rattle.vault_types.specs.declared.Why.{Why}
use Rattle.vault_types.specs.declared.Fault.{Fault}
use Rattle.vault_types.specs.declared.Fault.TheVariants as fault
use Rattle.vault_types.specs.declared.Answer.{Answer}
use Rattle.vault_types.specs.declared.Answer.TheVariants.{Migrated, Refused}
use Rattle.vault_types.specs.State.{State, KeptVersion, dataset, floor_of, version_of, recipe_of}
use Rattle.vault_types.specs.Blobs.{recipe_bytes_1}
use Rattle.vault_types.specs.Bytes.{IsSound}
use Rattle.vault_types.specs.Shelf.{Blobs, Stands, blob_at, recipe_name}
use Rattle.vault_types.specs.Events.{Change, IsNear}
use Rattle.vault_types.specs.Plans.{requests, IsLeast}
use Rattle.vault_types.specs.Refusals.{is_damage_of}
use Rattle.vault_types.specs.Script.{row_ids, is_refused}
use Rattle.vault_traits.specs.Counts.{counted_up}
use Rattle.vault_traits.specs.Crash.{History, LeavesNowIfTold, LeavesOnlyIfTold}
use Rattle.vault_traits.specs.Told.{ShelfTold}
use Rattle.vault_types.specs.RecipeForms.{IsSecond}
use Rattle.store_model.specs.Calls.{Keeping}
use Rattle.store_model.specs.Causes.{CausesRise, may_be_wrong, counts_of_shelf}
use Rattle.store_model.specs.Complete.{is_counted}
use Rattle.store_model.specs.Leaves.{Begins}
use Rattle.store_model.specs.Steps.{answer_of}
use Rattle.store_model.specs.Strays.{StraysOf}
use Rattle.store_model.specs.Table.{IsDamage}
use Rattle.store_model.specs.World.{World, IsPrinted, report_text}

-- so many versions of a set from one on, as pairs of set and number
abbrev pub versions_from : ℕ → ℕ → ℕ → List (ℕ × ℕ)
versions_from s floor zero = []
versions_from s floor (suc n) = versions_from s floor n ++ (s, floor + n) ∷ []

-- the kept versions of the sets below one, by set and number
abbrev pub versions_below : State → ℕ → List (ℕ × ℕ)
versions_below S zero = []
versions_below S (suc s) =
    versions_below S s ++ versions_from s (floor_of S s) (length (dataset S s).versions)

abbrev pub kept_versions : State → List (ℕ × ℕ)
kept_versions S = versions_below S (length S.datasets)

-- the recipe of the version is spelled in the first format
abbrev pub IsInFirstFormat : Option Blobs → ℕ → ℕ → KeptVersion → Type 0
IsInFirstFormat told s v k = blob_at told (recipe_name s v) ≡ Some (recipe_bytes_1 (recipe_of s v k))

-- a version whose recipe is in the first format, and how many loads a restore of it with 16 slots
-- can do with at least
pub record IsOneFirst (told : Option Blobs) (S : State) (s v least : ℕ) : Type 0 where
  pub version : KeptVersion
  pub kept : version_of S s v ≡ Some version
  pub first : IsInFirstFormat told s v version
  pub loads : IsLeast (requests (row_ids S s v)) 16 least

-- of these versions so many have their recipes in the first format, and their restores can do with
-- so many loads in all
abbrev pub HaveFirst : Option Blobs → State → List (ℕ × ℕ) → ℕ → ℕ → Type 0
HaveFirst told S [] n loads = (n ≡ 0) × (loads ≡ 0)
HaveFirst told S (p ∷ ps) n loads =
    (((k : KeptVersion) × (version_of S p.0 p.1 ≡ Some k) × IsSecond told p.0 p.1 k)
    × HaveFirst told S ps n loads)
    ⊎ ((m least others : ℕ) × IsOneFirst told S p.0 p.1 least × HaveFirst told S ps m others × (n ≡ m + 1)
    × (loads ≡ least + others))

-- how many payloads are got: as many as restores of those versions can do with, and then the answer
-- tells how many versions these are; or at most so many where it is refused
abbrev pub GetsOf : Option Blobs → State → Answer → ℕ → Type 0
GetsOf told S (Migrated recipes) n = HaveFirst told S (kept_versions S) recipes n
GetsOf told S answer n = (recipes least : ℕ) → HaveFirst told S (kept_versions S) recipes least → n ≤ least

-- whether an answer is one to `migrate`
abbrev pub fits_migrate : Answer → Bool
fits_migrate (Migrated recipes) = true
fits_migrate (Refused (fault.StoreFault n)) = true
fits_migrate (Refused (fault.Damaged kind.Recipe number why)) = may_be_wrong kind.Recipe why
fits_migrate (Refused (fault.Damaged kind.Payload number why)) = may_be_wrong kind.Payload why
fits_migrate (Refused fault.Memory) = true
fits_migrate other = false

-- a recipe of a kept version or a payload that its rows name is damaged, and in this way
abbrev pub IsDamageOfKept : State → Kind → ℕ → Why → Type 0
IsDamageOfKept S k number why =
    (s v : ℕ) × (j : KeptVersion) × (version_of S s v ≡ Some j) × IsTrue (is_damage_of S s v k number)
    × IsDamage S s v k number why

abbrev pub ShowsKeptDamage : State → Answer → Type 0
ShowsKeptDamage S (Refused (fault.Damaged k number why)) = IsDamageOfKept S k number why
ShowsKeptDamage S answer = Unit {0}

-- each kept recipe is as it was, or in the second format; where it was done each is in that
pub record AreForms (S : State) (answer : Answer) (old new : Option Blobs) : Type 0 where
  pub each : (s v : ℕ) (k : KeptVersion) → s < length S.datasets → version_of S s v ≡ Some k
      → (blob_at new (recipe_name s v) ≡ blob_at old (recipe_name s v)) ⊎ IsSecond new s v k
  pub done : is_refused answer ≡ false → (s v : ℕ) (k : KeptVersion) → s < length S.datasets
      → version_of S s v ≡ Some k → IsSecond new s v k

-- what is answered and left in the state: it stays. Over a sound one it is done, or there was no
-- memory, or a fault was counted
pub record MigratesIn (S : State) (answer : Answer) (old new : ShelfTold) : Type 0 where
  pub forms : AreForms S answer old.blobs new.blobs
  pub gets : (n : ℕ) × (new.gets ≡ counted_up old.gets n) × GetsOf old.blobs S answer n
  pub damage : ShowsKeptDamage S answer
  pub complete : IsSound S
      → (is_refused answer ≡ false) ⊎ ((answer ≡ Refused fault.Memory) ⊎ IsTrue (is_counted answer))

-- a crash at any moment leaves what it could leave before; and one behind a migration that was done
-- what there is then
pub record BearsMigration (S : State) (other next : Option Change) (answer : Answer)
    (old new : Option History) : Type 0 where
  pub any_moment : LeavesOnlyIfTold old new (IsNear S other)
  pub behind : is_refused answer ≡ false → LeavesNowIfTold new (IsNear S next)

-- what the call of a store ensures, where what it keeps is given, and the names that it knows as strays
pub record MigratesStore (before behind : Keeping) (Known Behind : Name → Type 0) (old new : ShelfTold)
    (result : Result Answer Fault) : Type 0 where
  pub done : IfOk result (λ a. is_refused a ≡ false)
  pub kind : IsTrue (fits_migrate (answer_of result))
  pub causes : CausesRise (counts_of_shelf old) (counts_of_shelf new) (answer_of result ∷ [])
  pub steps : (S : State) (other : Option Change) → before S other
      → (next : Option Change) × behind S next × ((next ≡ None) ⊎ (next ≡ other))
      × MigratesIn S (answer_of result) old new
      × ((n : Name) → Behind n → Known n)
      × (LeavesNowIfTold old.history (IsNear S other)
      → BearsMigration S other next (answer_of result) old.history new.history)

-- what a migration leaves of a shelf that begins with the state: its blobs stand for it still, no
-- name has become a stray, and a crash at any moment leaves only what stands for it
pub record StaysAsIs (S : State) (old new : ShelfTold) : Type 0 where
  pub blobs : IsSomeAnd new.blobs (λ m. Stands m S)
  pub strays : (n : Name) → StraysOf new S n → StraysOf old S n
  pub crash : LeavesNowIfTold old.history (λ m. Stands m S)
      → LeavesOnlyIfTold old.history new.history (λ m. Stands m S)

-- `migrate`; the report is on `out`
pub record RunsMigrate (before now : World) (answers : List Answer) (f : Option Fault) : Type 0 where
  pub answer : Answer
  pub one : answers ≡ answer ∷ []
  pub kind : IsTrue (fits_migrate answer)
  pub causes : CausesRise (counts_of_shelf before.shelf) (counts_of_shelf now.shelf) answers
  pub means : (S : State) → Begins before.shelf S → MigratesIn S answer before.shelf now.shelf
  pub stays : (S : State) → Begins before.shelf S → StaysAsIs S before.shelf now.shelf
  pub printed : IsPrinted (report_text answers) before.out now.out f
  pub report : now.report ≡ before.report
  pub input : now.input ≡ before.input
  pub places : now.places ≡ before.places

-- How far a migration has come.
use Rattle.std.specs.Prelude.{◌≡◌, ◌≢◌, ◌⊎◌, ◌≤◌, ℕ, Bool, IsTrue, List, [], ◌∷◌, length, Option, Some, None, if◌then◌else◌}
use Rattle.vault_types.specs.declared.Fault.{Fault}
use Rattle.vault_types.specs.declared.Fault.TheVariants as fault
use Rattle.vault_types.specs.declared.Answer.TheVariants.{Refused}
use Rattle.vault_types.specs.declared.Kind.TheVariants as kind
use Rattle.vault_types.specs.declared.Name.{Name}
use Rattle.vault_types.specs.State.{State, KeptVersion, latest_of, version_of}
use Rattle.vault_types.specs.Bytes.{IsSound}
use Rattle.vault_types.specs.Shelf.{blob_at, recipe_name}
use Rattle.vault_types.specs.Events.{Change, IsNear}
use Rattle.vault_types.specs.Plans.{requests, IsLeast}
use Rattle.vault_types.specs.Script.{row_ids}
use Rattle.vault_traits.specs.Counts.{counted_up, Rose}
use Rattle.vault_traits.specs.Crash.{LeavesNowIfTold, LeavesOnlyIfTold}
use Rattle.keeper_catalog.specs.View.{View}
use Rattle.store_model.specs.Causes.{may_be_wrong}
use Rattle.store_model.specs.Complete.{is_counted}
use Rattle.vault_types.specs.RecipeForms.{IsSecond}
use Rattle.store_model.specs.Migrating.{HaveFirst, ShowsKeptDamage, kept_versions}
use Rattle.keeper_core.specs.Keeping.{IsStateOf, IsKnownStray}
use Rattle.vault_types.specs.FirstDamage.{IsBefore}

-- the job and the pins stay, and the count of faults has not fallen
pub record IsLaterOf (u v : View) : Type 0 where
  pub later : u.told.faults ≤ v.told.faults
  pub job : v.job ≡ u.job
  pub pins : v.pins ≡ u.pins

-- why a migration stops: the shelf failed in it, a recipe or a payload is damaged, or there was no memory
abbrev pub IsMigrateFault : View → View → Fault → Type 0
IsMigrateFault u v (fault.StoreFault n) = Rose u.told.faults n × (n ≤ v.told.faults)
IsMigrateFault u v (fault.Damaged kind.Recipe number why) = IsTrue (may_be_wrong kind.Recipe why)
IsMigrateFault u v (fault.Damaged kind.Payload number why) = IsTrue (may_be_wrong kind.Payload why)
IsMigrateFault u v fault.Memory = Unit {0}
IsMigrateFault u v other = ⊥

-- a sink that only sums fails for want of memory alone
abbrev pub without_write : Fault → Fault
without_write (fault.WriteFault n) = fault.Memory
without_write other = other

-- what is done for one version leaves the state, and the change from before or none. Each recipe of
-- another version has its bytes, and the own one has them or is in the second format
pub record LeavesOne (u v : View) (S : State) (other next : Option Change) (s n : ℕ) : Type 0 where
  pub keeps : IsStateOf v S next
  pub next_other : (next ≡ None) ⊎ (next ≡ other)
  pub others : (t m : ℕ) → m ≤ latest_of S t → recipe_name t m ≢ recipe_name s n
      → blob_at v.told.blobs (recipe_name t m) ≡ blob_at u.told.blobs (recipe_name t m)
  pub own : (k : KeptVersion) → version_of S s n ≡ Some k
      → (blob_at v.told.blobs (recipe_name s n) ≡ blob_at u.told.blobs (recipe_name s n))
      ⊎ IsSecond v.told.blobs s n k
  pub strays : (q : Name) → IsKnownStray v q → IsKnownStray u q
  pub any_moment : LeavesNowIfTold u.told.history (IsNear S other)
      → LeavesOnlyIfTold u.told.history v.told.history (IsNear S other)

-- payloads are got as often as a restore of the version has loads at least
pub record LoadsLeast (u v : View) (S : State) (s n : ℕ) : Type 0 where
  pub loads : ℕ
  pub least : IsLeast (requests (row_ids S s n)) 16 loads
  pub gets : v.told.gets ≡ counted_up u.told.gets loads

-- the version was restored, and all recipes have their bytes
pub record Summed (u v : View) (S : State) (other : Option Change) (s n : ℕ) : Type 0 where
  pub leaves : LeavesOne u v S other other s n
  pub same : (t m : ℕ) → blob_at v.told.blobs (recipe_name t m) ≡ blob_at u.told.blobs (recipe_name t m)
  pub loads : LoadsLeast u v S s n

-- its recipe was put again
pub record PutAgain (u v : View) (S : State) (other : Option Change) (s n : ℕ) : Type 0 where
  pub leaves : LeavesOne u v S other None s n
  pub second : (k : KeptVersion) → version_of S s n ≡ Some k → IsSecond v.told.blobs s n k
  pub loads : LoadsLeast u v S s n
  pub behind : LeavesNowIfTold u.told.history (IsNear S other)
      → LeavesNowIfTold v.told.history (IsNear S None)

-- that was refused. Over a sound state there was no memory, or a fault was counted
pub record Stopped (u v : View) (S : State) (other : Option Change) (s n : ℕ) (f : Fault) : Type 0 where
  pub next : Option Change
  pub leaves : LeavesOne u v S other next s n
  pub loads : ℕ
  pub few : (least : ℕ) → IsLeast (requests (row_ids S s n)) 16 least → loads ≤ least
  pub gets : v.told.gets ≡ counted_up u.told.gets loads
  pub damage : ShowsKeptDamage S (Refused f)
  pub sound : IsSound S → (f ≡ fault.Memory) ⊎ IsTrue (is_counted (Refused f))

-- one version was gone through: its recipe is in the second format, and was put again where it was
-- in the first
pub record Went (u v : View) (S : State) (other : Option Change) (s n : ℕ) (put : Bool) : Type 0 where
  pub next : Option Change
  pub leaves : LeavesOne u v S other next s n
  pub second : (k : KeptVersion) → version_of S s n ≡ Some k → IsSecond v.told.blobs s n k
  pub loads : ℕ
  pub have : HaveFirst u.told.blobs S ((s, n) ∷ []) (if put then 1 else 0) loads
  pub gets : v.told.gets ≡ counted_up u.told.gets loads
  pub behind : LeavesNowIfTold u.told.history (IsNear S other)
      → LeavesNowIfTold v.told.history (IsNear S next)

-- a refusal there: no payload was got where the recipe was in the second format
pub record Halted (u v : View) (S : State) (other : Option Change) (s n : ℕ) (f : Fault) : Type 0 where
  pub stopped : Stopped u v S other s n f
  pub few : (recipes least : ℕ) → HaveFirst u.told.blobs S ((s, n) ∷ []) recipes least → stopped.loads ≤ least

-- all versions before that one were gone through, which these are
pub record Gone (u v : View) (S : State) (other : Option Change) (set number : ℕ) (versions : List (ℕ × ℕ))
    (recipes : ℕ) : Type 0 where
  pub next : Option Change
  pub keeps : IsStateOf v S next
  pub next_other : (next ≡ None) ⊎ (next ≡ other)
  pub done : (s n : ℕ) (k : KeptVersion) → version_of S s n ≡ Some k → IsBefore s n set number
      → IsSecond v.told.blobs s n k
  pub rest : (s n : ℕ) (k : KeptVersion) → version_of S s n ≡ Some k → (IsBefore s n set number → ⊥)
      → blob_at v.told.blobs (recipe_name s n) ≡ blob_at u.told.blobs (recipe_name s n)
  pub strays : (q : Name) → IsKnownStray v q → IsKnownStray u q
  pub any_moment : LeavesNowIfTold u.told.history (IsNear S other)
      → LeavesOnlyIfTold u.told.history v.told.history (IsNear S other)
  pub behind : LeavesNowIfTold u.told.history (IsNear S other)
      → LeavesNowIfTold v.told.history (IsNear S next)
  pub loads : ℕ
  pub have : HaveFirst u.told.blobs S versions recipes loads
  pub gets : v.told.gets ≡ counted_up u.told.gets loads

-- all versions were gone through
abbrev pub AllDone : View → View → State → Option Change → ℕ → Type 0
AllDone u v S other recipes = Gone u v S other (length S.datasets) 0 (kept_versions S) recipes

-- a refusal before that
pub record HasEndedBy (u v : View) (S : State) (other : Option Change) (f : Fault) : Type 0 where
  pub next : Option Change
  pub keeps : IsStateOf v S next
  pub next_other : (next ≡ None) ⊎ (next ≡ other)
  pub forms : (s n : ℕ) (k : KeptVersion) → version_of S s n ≡ Some k
      → (blob_at v.told.blobs (recipe_name s n) ≡ blob_at u.told.blobs (recipe_name s n))
      ⊎ IsSecond v.told.blobs s n k
  pub strays : (q : Name) → IsKnownStray v q → IsKnownStray u q
  pub any_moment : LeavesNowIfTold u.told.history (IsNear S other)
      → LeavesOnlyIfTold u.told.history v.told.history (IsNear S other)
  pub loads : ℕ
  pub few : (recipes least : ℕ) → HaveFirst u.told.blobs S (kept_versions S) recipes least → loads ≤ least
  pub gets : v.told.gets ≡ counted_up u.told.gets loads
  pub damage : ShowsKeptDamage S (Refused f)
  pub sound : IsSound S → (f ≡ fault.Memory) ⊎ IsTrue (is_counted (Refused f))

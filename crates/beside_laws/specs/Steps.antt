-- The steps of a run of lines with restores beside them.
use Rattle.std.specs.Prelude.{◌≡◌, ◌⊎◌, ◌≤◌, ◌<◌, ◌+◌, ◌-◌, ◌*◌, ◌^◌, ℕ, IsTrue, List, [], ◌∷◌, length, Contains, Option, Some, None}
use Rattle.std.specs.List.{cons_option}
use Rattle.vault_types.specs.declared.Limits.{Limits}
use Rattle.vault_types.specs.declared.Name.{Name}
use Rattle.vault_types.specs.declared.Line.{Line}
use Rattle.vault_types.specs.State.{State}
use Rattle.vault_types.specs.Bytes.{bytes_of}
use Rattle.vault_types.specs.Events.{Change, IsNear}
use Rattle.vault_types.specs.RecipeForms.{KeepsRecipes}
use Rattle.vault_types.specs.Script.{Sources}
use Rattle.vault_traits.specs.Counts.{counted_up, RiseFrom}
use Rattle.vault_traits.specs.Crash.{LeavesNowIfTold, LeavesOnlyIfTold}
use Rattle.vault_traits.specs.Files.{AreKept}
use Rattle.vault_traits.specs.Told.{ShelfTold, PlacesTold, Files}
use Rattle.store_model.specs.Causes.{fits, store_number, place_number, read_number, write_number}
use Rattle.store_model.specs.Complete.{IsWell, IsWellAnswered}
use Rattle.store_model.specs.Leaves.{Gets}
use Rattle.store_model.specs.Outputs.{IsOutput, KeepsOthers, OnFiles}
use Rattle.store_model.specs.Table.{MeansLine}
use Rattle.store_model.specs.Steps.{Moment}
use Rattle.beside_laws.specs.Running.{Running, line_of, owed}

-- no name becomes known as a stray but one of two for each unit that the count of faults rose by
pub record StraysLeft (Known Behind : Name → Type 0) (old new : ShelfTold) : Type 0 where
  pub later : old.faults ≤ new.faults
  pub others : List Name
  pub few : new.faults < 2 ^ 64 - 1 → length others ≤ 2 * (new.faults - old.faults)
  pub each : (n : Name) → Behind n → Known n ⊎ Contains others n

-- a call that leaves the state, as the pin, a load or the release of a restore: each state that was
-- kept is kept on, its recipes stay, and a crash leaves what it could leave before
pub record LeavesState {K : Type 0} (shelf : K → ShelfTold) (keeps : K → State → Option Change → Type 0)
    (known : K → Name → Type 0) (old new : K) : Type 0 where
  pub keeps_on : (S : State) (other : Option Change) → keeps old S other → keeps new S other
  pub strays : StraysLeft (known old) (known new) (shelf old) (shelf new)
  pub recipes : (S : State) (other : Option Change) → keeps old S other
      → KeepsRecipes S (shelf old).blobs (shelf new).blobs
  pub crash : (S : State) (other : Option Change) → keeps old S other
      → LeavesNowIfTold (shelf old).history (IsNear S other)
      → LeavesOnlyIfTold (shelf old).history (shelf new).history (IsNear S other)

-- the counts of failures of places have not fallen
pub record PlacesLater (old new : PlacesTold) : Type 0 where
  pub place : old.faults ≤ new.faults
  pub read : old.read_faults ≤ new.read_faults
  pub write : old.write_faults ≤ new.write_faults

-- a restore begins: its sink is opened, and its version is pinned
pub record BeginsRestore {K : Type 0} (shelf : K → ShelfTold) (keeps : K → State → Option Change → Type 0)
    (known : K → Name → Type 0) (old : Moment K) (line : Line) (new : Moment K) : Type 0 where
  pub leaves : LeavesState shelf keeps known old.keeper new.keeper
  pub gets : (shelf new.keeper).gets ≡ (shelf old.keeper).gets
  pub places : PlacesLater old.places new.places
  pub others : OnFiles old.places.files new.places.files (KeepsOthers (line ∷ []))

-- it goes on: it gets so many payloads, and may meet a first store fault, with the number that is
-- counted then
pub record GoesOnRestore {K : Type 0} (shelf : K → ShelfTold) (keeps : K → State → Option Change → Type 0)
    (known : K → Name → Type 0) (old : Moment K) (before : Option ℕ) (n : ℕ) (met : Option ℕ)
    (new : Moment K) : Type 0 where
  pub leaves : LeavesState shelf keeps known old.keeper new.keeper
  pub gets : (shelf new.keeper).gets ≡ counted_up (shelf old.keeper).gets n
  pub places : new.places ≡ old.places
  pub faults : ((met ≡ before) × ((shelf old.keeper).faults ≤ (shelf new.keeper).faults))
      ⊎ ((before ≡ None)
      × ((m : ℕ) × (met ≡ Some m) × RiseFrom (shelf old.keeper).faults (m ∷ []) (shelf new.keeper).faults))

-- what its answer means, in each state that the keeper kept before its pin; the number of a store
-- fault that it gives is that of the one which it met, if it met one
pub record IsOwn {K : Type 0} (keeps : K → State → Option Change → Type 0) (limits : Limits)
    (p : Running K) : Type 0 where
  pub kind : IsTrue (fits limits (line_of p) p.answer)
  pub met : (n : ℕ) → p.met ≡ Some n
      → (store_number p.answer ≡ None) ⊎ (store_number p.answer ≡ Some n)
  pub means : (S : State) (other : Option Change) (sources : Sources) → keeps p.from S other
      → MeansLine limits sources S (line_of p) p.answer
  pub complete : (S : State) (other : Option Change) (sources : Sources) → keeps p.from S other
      → IsWell limits sources S (line_of p ∷ []) → IsWellAnswered limits sources S (line_of p) p.answer

-- so many payloads more make what it gets in all
abbrev pub GetsMore : {K : Type 0} → (K → State → Option Change → Type 0) → Running K → ℕ → Type 0
GetsMore keeps p r =
    (S : State) (other : Option Change) → keeps p.from S other → Gets S (line_of p) p.answer (p.got + r)

-- what its name has is what it has written; the name's bytes before are not spoken of, since its
-- place was opened
abbrev pub HasOutput : {K : Type 0} → (K → State → Option Change → Type 0) → Files → Running K → Type 0
HasOutput keeps now p =
    (S : State) (other : Option Change) → keeps p.from S other → (before : Option (List ℕ))
    → IsOutput (bytes_of S p.set p.version) p.answer before (now p.name)

-- it ends with its answer: its pin is released, and its sink is closed
pub record EndsRestore {K : Type 0} (shelf : K → ShelfTold) (keeps : K → State → Option Change → Type 0)
    (known : K → Name → Type 0) (limits : Limits) (old : Moment K) (p : Running K)
    (new : Moment K) : Type 0 where
  pub leaves : LeavesState shelf keeps known old.keeper new.keeper
  pub gets : (shelf new.keeper).gets ≡ (shelf old.keeper).gets
  pub others : OnFiles old.places.files new.places.files (KeepsOthers (line_of p ∷ []))
  pub store : RiseFrom (shelf old.keeper).faults (cons_option (owed p) []) (shelf new.keeper).faults
  pub place : RiseFrom old.places.faults (cons_option (place_number p.answer) []) new.places.faults
  pub read : RiseFrom old.places.read_faults (cons_option (read_number p.answer) []) new.places.read_faults
  pub write : RiseFrom old.places.write_faults (cons_option (write_number p.answer) [])
      new.places.write_faults
  pub own : IsOwn keeps limits p
  pub got : GetsMore keeps p 0
  pub output : OnFiles old.places.files new.places.files (λ x y. HasOutput keeps y p)

-- a part of a line that has not answered yet, as a put of a job: the state, the gets and the
-- places' bytes stay
pub record IsPart {K : Type 0} (shelf : K → ShelfTold) (keeps : K → State → Option Change → Type 0)
    (known : K → Name → Type 0) (old new : Moment K) : Type 0 where
  pub leaves : LeavesState shelf keeps known old.keeper new.keeper
  pub gets : (shelf new.keeper).gets ≡ (shelf old.keeper).gets
  pub places : PlacesLater old.places new.places
  pub files : AreKept old.places.files new.places.files

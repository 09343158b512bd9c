-- One line of a run: what it takes the shelf and the keeper's state to.
use Rattle.std.specs.Prelude.{◌≡◌, ◌⊎◌, ◌≤◌, ◌<◌, ◌-◌, ◌*◌, ◌^◌, ℕ, false, IsTrue, List, [], ◌∷◌, length, Contains, Option, None, IsSomeAnd, Result, Ok, Err}
use Rattle.std.specs.List.{AllByRecursion}
use Rattle.vault_types.specs.declared.Limits.{Limits}
use Rattle.vault_types.specs.declared.Name.{Name}
use Rattle.vault_types.specs.declared.Fault.{Fault}
use Rattle.vault_types.specs.declared.Fault.TheVariants as fault
use Rattle.vault_types.specs.declared.Answer.{Answer}
use Rattle.vault_types.specs.declared.Answer.TheVariants.{Refused}
use Rattle.vault_types.specs.declared.Line.{Line}
use Rattle.vault_types.specs.State.{State}
use Rattle.vault_types.specs.Words.{sources_of}
use Rattle.vault_types.specs.Shelf.{Blobs, Stands}
use Rattle.vault_types.specs.Events.{Change, IsNear}
use Rattle.vault_types.specs.Script.{Sources, after, after_line, is_refused, is_store_fault, changes}
use Rattle.vault_traits.specs.Counts.{counted_up}
use Rattle.vault_traits.specs.Crash.{History, LeavesNowIfTold, LeavesOnlyIfTold}
use Rattle.vault_traits.specs.Files.{IsThere}
use Rattle.vault_traits.specs.Told.{ShelfTold, PlacesTold}
use Rattle.store_model.specs.Causes.{CausesRise, fits, counts_over}
use Rattle.store_model.specs.Table.{MeansLine}
use Rattle.store_model.specs.Leaves.{Gets, is_change}
use Rattle.store_model.specs.Complete.{IsWell, IsWellAnswered}
use Rattle.store_model.specs.Outputs.{OnFiles, KeepsOthers, IsOutputOf, Reads, AreRead, AreFed}
use Rattle.store_model.specs.Strays.{MayStayBehind}
use Rattle.store_model.specs.Recipes.{KeepsForms}

abbrev pub answer_of : Result Answer Fault → Answer
answer_of (Ok answer) = answer
answer_of (Err f) = Refused f

-- the fault with the number that the places give it
abbrev pub read_numbered : ℕ → Fault → Fault
read_numbered n (fault.ReadFault m) = fault.ReadFault n
read_numbered n other = other

abbrev pub write_numbered : ℕ → Fault → Fault
write_numbered n (fault.WriteFault m) = fault.WriteFault n
write_numbered n other = other

-- the change that a failed write may have made, behind a line: none where blobs were mended or
-- nothing failed; the one from before where the line was refused or changes nothing; and that of
-- the line done where it changes the state and answered a store fault
abbrev pub IsNextOther : Sources → State → Option Change → Line → Answer → Option Change → Type 0
IsNextOther sources S other line answer next =
    (next ≡ None)
    ⊎ (((IsTrue (is_refused answer) ⊎ (changes line ≡ false)) × (next ≡ other)))
    ⊎ (IsTrue (is_store_fault answer) × IsTrue (changes line)
    × IsSomeAnd next (λ h. h.state ≡ after_line sources S line))

-- the blobs stand for the state, or for that with the change
abbrev pub StandsWith : State → Option Change → Blobs → Type 0
StandsWith S other m = Stands m S ⊎ IsSomeAnd other (λ h. Stands m h.state)

-- what is known as a stray behind the line was known before and may stay, or is one of two for each
-- unit that the count of faults rose by
pub record StraysStep (limits : Limits) (S : State) (line : Line) (answer : Answer)
    (Known Behind : Name → Type 0) (old new : ShelfTold) : Type 0 where
  pub later : old.faults ≤ new.faults
  pub others : List Name
  pub few : new.faults < 2 ^ 64 - 1 → length others ≤ 2 * (new.faults - old.faults)
  pub each : (n : Name) → Behind n → MayStayBehind limits S line answer Known n ⊎ Contains others n

-- a crash at any moment of the line leaves the state before it or the one behind it, or that with
-- the change that was half done before or is then; one behind it the state then or with the change
pub record BearsStep (sources : Sources) (S : State) (other : Option Change) (line : Line) (answer : Answer)
    (next : Option Change) (old new : Option History) : Type 0 where
  pub any_moment : LeavesOnlyIfTold old new (λ m. StandsWith S other m
      ⊎ StandsWith (after sources S line answer) next m)
  pub behind : LeavesNowIfTold new (IsNear (after sources S line answer) next)

-- what a line does in the state S, where a failed write may have made the change `other`, and these
-- names are known as strays before and behind it
pub record StepsOn (limits : Limits) (sources : Sources) (S : State) (other : Option Change) (line : Line)
    (answer : Answer) (next : Option Change) (Known Behind : Name → Type 0)
    (old new : ShelfTold) : Type 0 where
  pub means : MeansLine limits sources S line answer
  pub complete : IsWell limits sources S (line ∷ []) → IsWellAnswered limits sources S line answer
  pub next_other : IsNextOther sources S other line answer next
  pub gets : (n : ℕ) × (new.gets ≡ counted_up old.gets n) × Gets S line answer n
  pub strays : StraysStep limits S line answer Known Behind old new
  pub forms : KeepsForms S (after sources S line answer) old.blobs new.blobs
  pub crash : LeavesNowIfTold old.history (IsNear S other)
      → BearsStep sources S other line answer next old.history new.history
  pub settles : IsTrue (is_change line answer)
      → LeavesNowIfTold new.history (λ m. Stands m (after sources S line answer))

-- a keeper and the places, between two lines
pub record Moment (K : Type 0) : Type 0 where
  pub keeper : K
  pub places : PlacesTold

-- a line: one answer of its kind, each refusal with its cause; the source of a backup that is done
-- is there; and in each state that the keeper keeps, what the line means there, with the bytes that
-- it read
pub record StepsLine {K : Type 0} (shelf : K → ShelfTold) (keeps : K → State → Option Change → Type 0)
    (known : K → Name → Type 0) (limits : Limits) (old : Moment K) (line : Line) (answer : Answer)
    (new : Moment K) : Type 0 where
  pub kind : IsTrue (fits limits line answer)
  pub causes : CausesRise (counts_over (shelf old.keeper) old.places)
      (counts_over (shelf new.keeper) new.places) (answer ∷ [])
  pub others : OnFiles old.places.files new.places.files (KeepsOthers (line ∷ []))
  pub reads : Reads
  pub read : AreRead old.places.files (line ∷ []) reads
  pub there : is_refused answer ≡ false → AllByRecursion (IsThere old.places.files) (sources_of line)
  pub means : (S : State) (other : Option Change) (sources : Sources) → keeps old.keeper S other
      → AreFed sources reads
      → (next : Option Change) × keeps new.keeper (after sources S line answer) next
      × StepsOn limits sources S other line answer next (known old.keeper) (known new.keeper)
      (shelf old.keeper) (shelf new.keeper)
  pub output : (S : State) (other : Option Change) → keeps old.keeper S other
      → OnFiles old.places.files new.places.files (IsOutputOf S line answer)

-- the lines one after another, from one moment to another
abbrev pub Chain : {M : Type 0} → (M → Line → Answer → M → Type 0) → M → List Line → List Answer → M → Type 0
Chain Step old [] [] new = new ≡ old
Chain Step old [] (answer ∷ answers) new = ⊥
Chain Step old (line ∷ lines) [] new = ⊥
Chain {M} Step old (line ∷ lines) (answer ∷ answers) new =
    (mid : M) × Step old line answer mid × Chain Step mid lines answers new

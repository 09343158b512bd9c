-- What the lines leave on the shelf: at the end, and where a crash comes.
use Rattle.std.specs.Prelude.{◌≡◌, ◌≤◌, ◌+◌, ◌⊎◌, ℕ, Bool, false, not, ◌&&◌, ◌||◌, IsTrue, List, [], ◌∷◌, Option, IsSomeAnd}
use Rattle.vault_types.specs.declared.Fault.TheVariants as fault
use Rattle.vault_types.specs.declared.Answer.{Answer}
use Rattle.vault_types.specs.declared.Answer.TheVariants.{Restored, Refused}
use Rattle.vault_types.specs.declared.Line.{Line}
use Rattle.vault_types.specs.declared.Line.TheVariants.{Restore}
use Rattle.vault_types.specs.State.{State, IsValid}
use Rattle.vault_types.specs.Shelf.{Blobs, Stands, StandsNearly}
use Rattle.vault_types.specs.Plans.{requests, IsLeast}
use Rattle.vault_types.specs.Script.{Sources, after, after_line, is_refused, is_store_fault, changes, row_ids, state_after}
use Rattle.vault_traits.specs.Counts.{counted_up}
use Rattle.vault_traits.specs.Crash.{History, LeavesNowIfTold, LeavesOnlyIfTold}
use Rattle.vault_traits.specs.Told.{ShelfTold}
use Rattle.store_model.specs.Recipes.{KeepsForms}

-- a backup or a deletion that was done
abbrev pub is_change : Line → Answer → Bool
is_change line answer = changes line && not (is_refused answer)

-- whether one of the lines is such a one
abbrev pub has_change : List Line → List Answer → Bool
has_change [] answers = false
has_change (line ∷ lines) [] = false
has_change (line ∷ lines) (answer ∷ answers) = is_change line answer || has_change lines answers

-- a backup or a deletion that answered a store fault, behind which none was done, may be done on
-- the shelf: T is the state with it
abbrev pub MayBeDone : Sources → State → List Line → List Answer → State → Type 0
MayBeDone sources S [] answers T = ⊥
MayBeDone sources S (line ∷ lines) [] T = ⊥
MayBeDone sources S (line ∷ lines) (answer ∷ answers) T =
    (IsTrue (is_store_fault answer) × IsTrue (changes line) × (has_change lines answers ≡ false)
    × (T ≡ after_line sources S line))
    ⊎ MayBeDone sources (after sources S line answer) lines answers T

-- the blobs stand for the state, or nearly, and then for one of these others, which is valid
abbrev pub StandsOrNearly : State → (State → Type 0) → Blobs → Type 0
StandsOrNearly S May m = Stands m S ⊎ ((T : State) × May T × IsValid T × Stands m T × StandsNearly m S)

-- the blobs stand for one of these states, which is valid
abbrev pub StandsForOne : (State → Type 0) → Blobs → Type 0
StandsForOne May m = (T : State) × May T × IsValid T × Stands m T

-- the state, or one of the others
abbrev pub IsOr : State → (State → Type 0) → State → Type 0
IsOr S Half T = (T ≡ S) ⊎ Half T

-- the shelf's blobs stand for a valid state
pub record Begins (shelf : ShelfTold) (S : State) : Type 0 where
  pub blobs : IsSomeAnd shelf.blobs (λ m. Stands m S)
  pub valid : IsValid S

-- loads

-- how many payloads a line gets: as many as the best plan loads, or at most so many where it is refused
abbrev pub Gets : State → Line → Answer → ℕ → Type 0
Gets S (Restore s v name cache) (Restored t w bytes loads) n = IsLeast (requests (row_ids S s v)) cache n
Gets S (Restore s v name cache) (Refused (fault.NotKept t w floor latest)) n = n ≡ 0
Gets S (Restore s v name cache) (Refused (fault.PlaceFault m)) n = n ≡ 0
Gets S (Restore s v name cache) (Refused f) n =
    (least : ℕ) → IsLeast (requests (row_ids S s v)) cache least → n ≤ least
Gets S line answer n = n ≡ 0

abbrev pub AllGets : Sources → State → List Line → List Answer → ℕ → Type 0
AllGets sources S [] answers n = n ≡ 0
AllGets sources S (line ∷ lines) [] n = n ≡ 0
AllGets sources S (line ∷ lines) (answer ∷ answers) n =
    (first others : ℕ) × Gets S line answer first
    × AllGets sources (after sources S line answer) lines answers others × (n ≡ first + others)

pub record HasLoaded (sources : Sources) (S : State) (lines : List Line) (answers : List Answer)
    (old new : ℕ) : Type 0 where
  pub gets : ℕ
  pub counted : new ≡ counted_up old gets
  pub each : AllGets sources S lines answers gets

-- at the end, and where a crash comes
pub record LeavesShelf (sources : Sources) (S : State) (lines : List Line) (answers : List Answer)
    (old new : ShelfTold) : Type 0 where
  pub blobs : IsSomeAnd new.blobs
      (StandsOrNearly (state_after sources S lines answers) (MayBeDone sources S lines answers))
  pub valid : IsValid (state_after sources S lines answers)
  pub forms : KeepsForms S (state_after sources S lines answers) old.blobs new.blobs
  pub loads : HasLoaded sources S lines answers old.gets new.gets

-- where a crash comes

-- the states of changes that may be half done behind a line, of those before it: none behind a
-- change that was done; else those, and that of the line done where it would change the state and
-- answered a store fault
abbrev pub HalfBehind : Sources → State → Line → Answer → (State → Type 0) → State → Type 0
HalfBehind sources S line answer Half T =
    ((is_change line answer ≡ false) × Half T)
    ⊎ (IsTrue (is_store_fault answer) × IsTrue (changes line) × (T ≡ after_line sources S line))

-- line by line there is a moment behind it, up to which a crash leaves only the state before the
-- line, the one behind it, or that of a change half done then, and at which only the one behind it,
-- or that of a change still half done; and so on from there. Behind the last line it leaves only
-- the last state, or that of a change half done
abbrev pub BearsLines : Sources → State → (State → Type 0) → List Line → List Answer → Option History
    → Option History → Type 0
BearsLines sources S Half [] answers old new = LeavesOnlyIfTold old new (StandsForOne (IsOr S Half))
BearsLines sources S Half (line ∷ lines) [] old new = ⊥
BearsLines sources S Half (line ∷ lines) (answer ∷ answers) old new =
    (mid : Option History)
    × LeavesOnlyIfTold old mid
    (StandsForOne (λ T. IsOr S Half T
    ⊎ IsOr (after sources S line answer) (HalfBehind sources S line answer Half) T))
    × LeavesNowIfTold mid
    (StandsForOne (IsOr (after sources S line answer) (HalfBehind sources S line answer Half)))
    × BearsLines sources (after sources S line answer) (HalfBehind sources S line answer Half) lines answers
    mid new

-- whatever a crash could leave before: behind each backup or deletion that was done there is a
-- moment at which it leaves only its state, and from there on it leaves what the lines that follow
-- leave
abbrev pub BearsOnceDone : Sources → State → List Line → List Answer → Option History → Type 0
BearsOnceDone sources S [] answers new = Unit {0}
BearsOnceDone sources S (line ∷ lines) [] new = Unit {0}
BearsOnceDone sources S (line ∷ lines) (answer ∷ answers) new =
    (IsTrue (is_change line answer)
    → (mid : Option History) × LeavesNowIfTold mid (StandsForOne (λ T. T ≡ after sources S line answer))
    × BearsLines sources (after sources S line answer) (λ T. ⊥) lines answers mid new)
    × BearsOnceDone sources (after sources S line answer) lines answers new

-- What comes of a line, of a part of one, and of a turn of a restore.
use Rattle.std.specs.Prelude.{◌≡◌, ℕ, Bool, true, false, List, [], ◌∷◌, ◌++◌, Option, Some, None}
use Rattle.vault_types.specs.declared.Limits.{Limits}
use Rattle.vault_types.specs.declared.Name.{Name}
use Rattle.vault_types.specs.declared.Line.{Line}
use Rattle.vault_types.specs.declared.Line.TheVariants.{Backup, Restore, Delete}
use Rattle.vault_types.specs.Events.{Change}
use Rattle.vault_types.specs.State.{State}
use Rattle.vault_traits.specs.Files.{IsThere}
use Rattle.vault_traits.specs.Told.{ShelfTold}
use Rattle.store_model.specs.Steps.{Moment, StepsLine}
use Rattle.beside_laws.specs.Running.{Past, just_begun, past_on}
use Rattle.beside_laws.specs.Steps.{BeginsRestore, GoesOnRestore, IsPart}
use Rattle.beside_runner.specs.declared.world.Begun.{Begun}
use Rattle.beside_runner.specs.declared.world.Begun.TheVariants as begun
use Rattle.beside_runner.specs.declared.world.LineTurn.{LineTurn}
use Rattle.beside_runner.specs.declared.world.LineTurn.TheVariants as turn

abbrev pub is_restore : Line → Bool
is_restore (Backup s name config) = false
is_restore (Restore s v name cache) = true
is_restore (Delete s n) = false

-- a restore's line began, at this place
pub record IsBegun {K : Type 0} (shelf : K → ShelfTold) (keeps : K → State → Option Change → Type 0)
    (known : K → Name → Type 0) (old : Moment K) (line : Line) (at : ℕ) (new : Moment K)
    (p : Past K) : Type 0 where
  pub set : ℕ
  pub version : ℕ
  pub name : List ℕ
  pub cache : ℕ
  pub is : line ≡ Restore set version name cache
  pub begins : BeginsRestore shelf keeps known old (Restore set version name cache) new
  pub there : IsThere new.places.files name
  pub past : p ≡ just_begun old.keeper set version name cache at

abbrev pub HasBegun : {K E : Type 0} → (K → ShelfTold) → (K → State → Option Change → Type 0)
    → (K → Name → Type 0) → (E → Past K) → Limits → Moment K → Line → ℕ → Moment K → Begun E → Type 0
HasBegun shelf keeps known past limits old line at new (begun.Answered answer) =
    StepsLine shelf keeps known limits old line answer new
HasBegun shelf keeps known past limits old line at new (begun.Running e) =
    IsBegun shelf keeps known old line at new (past e)
HasBegun shelf keeps known past limits old line at new begun.InParts = IsPart shelf keeps known old new

-- the restores that run then
abbrev pub with_begun : {E : Type 0} → List E → Begun E → List E
with_begun xs (begun.Answered answer) = xs
with_begun xs (begun.Running e) = xs ++ e ∷ []
with_begun xs begun.InParts = xs

-- the line that goes on by parts then
abbrev pub begun_line : {E : Type 0} → Line → Begun E → Option Line
begun_line line (begun.Answered answer) = None
begun_line line (begun.Running e) = None
begun_line line begun.InParts = Some line

-- a part of a line, or the last one with its answer
abbrev pub HasGoneOn : {K : Type 0} → (K → ShelfTold) → (K → State → Option Change → Type 0)
    → (K → Name → Type 0) → Limits → Moment K → Line → Moment K → LineTurn → Type 0
HasGoneOn shelf keeps known limits old line new (turn.Answered answer) =
    StepsLine shelf keeps known limits old line answer new
HasGoneOn shelf keeps known limits old line new turn.Moved = IsPart shelf keeps known old new
HasGoneOn shelf keeps known limits old line new turn.Idle = IsPart shelf keeps known old new

abbrev pub line_left : Line → LineTurn → Option Line
line_left line (turn.Answered answer) = None
line_left line turn.Moved = Some line
line_left line turn.Idle = Some line

-- a restore went on
pub record GoesOn {K : Type 0} (shelf : K → ShelfTold) (keeps : K → State → Option Change → Type 0)
    (known : K → Name → Type 0) (old : Moment K) (p q : Past K) (new : Moment K) : Type 0 where
  pub gets : ℕ
  pub met : Option ℕ
  pub on : GoesOnRestore shelf keeps known old p.met gets met new
  pub is : q ≡ past_on p gets met

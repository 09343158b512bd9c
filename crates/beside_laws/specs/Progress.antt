-- A run of lines in order, with restores beside them, step by step.
use Rattle.std.specs.Prelude.{◌≡◌, ◌<◌, ◌+◌, ℕ, List, [], ◌∷◌, ◌++◌, length, get_or, set, Option}
use Rattle.vault_types.specs.declared.Answer.{Answer}
use Rattle.vault_types.specs.declared.Limits.{Limits}
use Rattle.vault_types.specs.declared.Line.{Line}
use Rattle.vault_types.specs.declared.Line.TheVariants.{Restore}
use Rattle.vault_types.specs.declared.Name.{Name}
use Rattle.vault_types.specs.Events.{Change}
use Rattle.vault_types.specs.State.{State}
use Rattle.vault_traits.specs.Files.{IsThere}
use Rattle.vault_traits.specs.Told.{ShelfTold}
use Rattle.store_model.specs.Outputs.{AreApartLines}
use Rattle.store_model.specs.Steps.{Moment, StepsLine}
use Rattle.beside_laws.specs.Running.{Past, just_begun, past_on, with_answer}
use Rattle.beside_laws.specs.Steps.{BeginsRestore, GoesOnRestore, EndsRestore, IsPart}

-- of the lines so many have begun, which took the keeper and the places from the start to now: of
-- these some are restores that run, and each of the others has its answer at its place
pub data Underway {K : Type 0} (shelf : K → ShelfTold) (keeps : K → State → Option Change → Type 0)
    (known : K → Name → Type 0) (limits : Limits) (lines : List Line) (start : Moment K)
    : ℕ → List Answer → List (Past K) → Moment K → Type 0 where
  -- none has begun
  begins : (answers : List Answer) → AreApartLines lines → length answers ≡ length lines
      → Underway shelf keeps known limits lines start 0 answers [] start
  -- the next line has answered
  answers_line : (i : ℕ) (answers : List Answer) (P : List (Past K)) (now mid : Moment K) (line : Line)
      (answer : Answer)
      → i < length lines → line ≡ get_or lines i line → StepsLine shelf keeps known limits now line answer mid
      → Underway shelf keeps known limits lines start i answers P now
      → Underway shelf keeps known limits lines start (i + 1) (set answers i answer) P mid
  -- the next line is a restore, which runs from now on
  begins_restore : (i : ℕ) (answers : List Answer) (P : List (Past K)) (now mid : Moment K) (s v : ℕ)
      (name : List ℕ) (cache : ℕ)
      → i < length lines → Restore s v name cache ≡ get_or lines i (Restore s v name cache)
      → BeginsRestore shelf keeps known now (Restore s v name cache) mid → IsThere mid.places.files name
      → Underway shelf keeps known limits lines start i answers P now
      → Underway shelf keeps known limits lines start (i + 1) answers
      (P ++ just_begun now.keeper s v name cache i ∷ []) mid
  -- one that runs goes on
  goes_on : (i : ℕ) (answers : List Answer) (first : List (Past K)) (p : Past K) (later : List (Past K))
      (now mid : Moment K) (n : ℕ) (met : Option ℕ)
      → GoesOnRestore shelf keeps known now p.met n met mid
      → Underway shelf keeps known limits lines start i answers (first ++ p ∷ later) now
      → Underway shelf keeps known limits lines start i answers (first ++ past_on p n met ∷ later) mid
  -- one that runs ends, and answers at the place of its line
  ends_restore : (i : ℕ) (answers : List Answer) (first : List (Past K)) (p : Past K) (later : List (Past K))
      (now mid : Moment K) (answer : Answer)
      → EndsRestore shelf keeps known limits now (with_answer answer p) mid
      → Underway shelf keeps known limits lines start i answers (first ++ p ∷ later) now
      → Underway shelf keeps known limits lines start i (set answers p.place answer) (first ++ later) mid
  -- a part of the next line is done
  part : (i : ℕ) (answers : List Answer) (P : List (Past K)) (now mid : Moment K)
      → IsPart shelf keeps known now mid → Underway shelf keeps known limits lines start i answers P now
      → Underway shelf keeps known limits lines start i answers P mid

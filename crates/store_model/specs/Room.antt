-- Restores into sinks that have room for so many bytes, if their room is told.
use Rattle.std.specs.Prelude.{◌<◌, ℕ, List, [], ◌∷◌, length, Option, IsSome, IfSome}
use Rattle.vault_types.specs.declared.Limits.{Limits}
use Rattle.vault_types.specs.declared.Name.{Name}
use Rattle.vault_types.specs.declared.Fault.TheVariants as fault
use Rattle.vault_types.specs.declared.Answer.{Answer}
use Rattle.vault_types.specs.declared.Answer.TheVariants.{Refused}
use Rattle.vault_types.specs.declared.Line.{Line}
use Rattle.vault_types.specs.declared.Line.TheVariants.{Restore}
use Rattle.vault_types.specs.Bytes.{bytes_of}
use Rattle.vault_types.specs.Events.{Change}
use Rattle.vault_types.specs.Script.{Sources, after}
use Rattle.vault_types.specs.State.{State}
use Rattle.vault_traits.specs.Told.{ShelfTold}
use Rattle.store_model.specs.Steps.{Moment, StepsLine}

-- a restore is refused by its sink only where its version is longer than the sink's room
abbrev pub NeedsRoom : Option ℕ → State → Line → Answer → Type 0
NeedsRoom room S (Restore s v name cache) (Refused (fault.WriteFault n)) =
    IfSome room (λ most. most < length (bytes_of S s v))
NeedsRoom room S line answer = Unit {0}

-- so does each of the lines, in the state that those before it leave
abbrev pub NeedRoom : Option ℕ → Sources → State → List Line → List Answer → Type 0
NeedRoom room sources S [] answers = Unit {0}
NeedRoom room sources S (line ∷ lines) [] = Unit {0}
NeedRoom room sources S (line ∷ lines) (answer ∷ answers) =
    NeedsRoom room S line answer × NeedRoom room sources (after sources S line answer) lines answers

-- a line over places that tell their bytes, whose sinks have this room
pub record StepsWithin {K : Type 0} (shelf : K → ShelfTold) (keeps : K → State → Option Change → Type 0)
    (known : K → Name → Type 0) (limits : Limits) (room : Option ℕ) (old : Moment K) (line : Line)
    (answer : Answer) (new : Moment K) : Type 0 where
  pub step : StepsLine shelf keeps known limits old line answer new
  pub needs : (S : State) (other : Option Change) → keeps old.keeper S other → IsSome old.places.files
      → NeedsRoom room S line answer

-- Completeness: what else the answers may be where all is well.
use Rattle.std.specs.Prelude.{◌≡◌, ◌⊎◌, ◌≤◌, ◌<◌, ◌+◌, ◌-◌, ◌^◌, ℕ, Bool, true, false, IsTrue, List, [], ◌∷◌, ◌++◌, length, flat_map, count_by, Some}
use Rattle.std.specs.List.{AllByRecursion}
use Rattle.vault_types.specs.declared.Limits.{Limits}
use Rattle.vault_types.specs.declared.Fault.{Fault}
use Rattle.vault_types.specs.declared.Fault.TheVariants as fault
use Rattle.vault_types.specs.declared.Answer.{Answer}
use Rattle.vault_types.specs.declared.Answer.TheVariants.{Refused}
use Rattle.vault_types.specs.declared.Line.{Line}
use Rattle.vault_types.specs.declared.Line.TheVariants.{Backup, Restore, Delete}
use Rattle.vault_types.specs.Cuts.{cuts}
use Rattle.vault_types.specs.Names.{NoClash}
use Rattle.vault_types.specs.State.{State}
use Rattle.vault_types.specs.Bytes.{IsSound, all_chunks}
use Rattle.vault_types.specs.Script.{Sources, after, state_after, IsDone}
use Rattle.vault_types.specs.Refusals.{due_refusal}
use Rattle.store_model.specs.Causes.{Counts}

-- the chunks of a line's source
abbrev pub chunks_of_line : Sources → Line → List (List ℕ)
chunks_of_line sources (Backup s name config) = cuts (sources name) config.cutting
chunks_of_line sources (Restore s v name cache) = []
chunks_of_line sources (Delete s n) = []

-- the state is sound, no two chunks of it and of the sources clash, and no source has more chunks
-- than the limit
pub record IsWell (limits : Limits) (sources : Sources) (S : State) (lines : List Line) : Type 0 where
  pub sound : IsSound S
  pub no_clash : NoClash (all_chunks S ++ flat_map (chunks_of_line sources) lines)
  pub few : AllByRecursion (λ line. length (chunks_of_line sources line) ≤ limits.chunks) lines

-- the state is sound, and no two chunks of it and of the sources clash
pub record IsSafe (sources : Sources) (S : State) (lines : List Line) : Type 0 where
  pub sound : IsSound S
  pub no_clash : NoClash (all_chunks S ++ flat_map (chunks_of_line sources) lines)

-- a fault of the shelf or of a place, which has a count
abbrev pub is_counted : Answer → Bool
is_counted (Refused (fault.StoreFault n)) = true
is_counted (Refused (fault.PlaceFault n)) = true
is_counted (Refused (fault.ReadFault n)) = true
is_counted (Refused (fault.WriteFault n)) = true
is_counted other = false

-- the line is done, or refused as the state asks, or there was no memory, or a fault was counted
abbrev pub IsWellAnswered : Limits → Sources → State → Line → Answer → Type 0
IsWellAnswered limits sources S line answer =
    IsDone sources S line answer
    ⊎ (((f : Fault) × (due_refusal limits S line ≡ Some f) × (answer ≡ Refused f))
    ⊎ ((answer ≡ Refused fault.Memory) ⊎ IsTrue (is_counted answer)))

abbrev pub AreWellAnswered : Limits → Sources → State → List Line → List Answer → Type 0
AreWellAnswered limits sources S [] answers = Unit {0}
AreWellAnswered limits sources S (line ∷ lines) [] = Unit {0}
AreWellAnswered limits sources S (line ∷ lines) (answer ∷ answers) =
    IsWellAnswered limits sources S line answer
    × AreWellAnswered limits sources (after sources S line answer) lines answers

-- a count that stands at the last value bounds nothing
pub record AreBelowLast (c : Counts) : Type 0 where
  pub store : c.store < 2 ^ 64 - 1
  pub place : c.place < 2 ^ 64 - 1
  pub read : c.read < 2 ^ 64 - 1
  pub write : c.write < 2 ^ 64 - 1

-- each line is well answered, at most as many as the counts rose by have a counted fault, and the
-- last state is sound
pub record IsComplete (limits : Limits) (sources : Sources) (S : State) (lines : List Line)
    (answers : List Answer) (old new : Counts) : Type 0 where
  pub each : AreWellAnswered limits sources S lines answers
  pub sound : IsSound (state_after sources S lines answers)
  pub few : AreBelowLast new
      → count_by is_counted answers
      ≤ (new.store - old.store) + (new.place - old.place) + (new.read - old.read)
      + (new.write - old.write)

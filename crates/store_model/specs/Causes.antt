-- The faults that may refuse a line, and the numbers that they carry.
use Rattle.std.specs.Prelude.{ℕ, Bool, true, false, not, ◌+◌, ◌*◌, ◌^◌, ◌&&◌, ◌||◌, ◌==◌, IsTrue, List, [], ◌∷◌, Option, Some, None}
use Rattle.std.specs.List.{filter_map}
use Rattle.std.specs.List.Sorted.{IsPermutation}
use Rattle.vault_types.specs.declared.Kind.{Kind}
use Rattle.vault_types.specs.declared.Kind.TheVariants as kind
use Rattle.vault_types.specs.declared.Limits.{Limits}
use Rattle.vault_types.specs.declared.Why.{Why}
use Rattle.vault_types.specs.declared.Why.TheVariants as why
use Rattle.vault_types.specs.declared.Fault.{Fault}
use Rattle.vault_types.specs.declared.Fault.TheVariants as fault
use Rattle.vault_types.specs.declared.Answer.{Answer}
use Rattle.vault_types.specs.declared.Answer.TheVariants.{Stored, Restored, Removed, Refused}
use Rattle.vault_types.specs.declared.Line.{Line}
use Rattle.vault_types.specs.declared.Line.TheVariants.{Backup, Restore, Delete}
use Rattle.vault_types.specs.State.{empty_state}
use Rattle.vault_types.specs.Names.{same_fp}
use Rattle.vault_types.specs.Refusals.{may_refuse}
use Rattle.vault_traits.specs.Counts.{RiseFrom}
use Rattle.vault_traits.specs.Told.{ShelfTold, SourceTold, SinkTold, PlacesTold}

-- whether a refusal that the state alone asks for is one for lines of this kind
abbrev pub may_be_due : Line → Fault → Bool
may_be_due (Backup s name config) (fault.Full t latest next) = s == t
may_be_due (Restore s v name cache) (fault.NotKept t w floor latest) = (s == t) && (v == w)
may_be_due (Delete s n) (fault.LastVersion t through latest) = (s == t) && (n == through)
may_be_due line other = false

-- whether a restore may find this wrong with the recipe of its version, or with a payload
abbrev pub may_be_wrong : Kind → Why → Bool
may_be_wrong kind.Recipe why.Absent = true
may_be_wrong kind.Recipe why.Spelling = true
may_be_wrong kind.Recipe (why.BadRow row) = true
may_be_wrong kind.Recipe (why.Whole want found) = not (same_fp want found)
may_be_wrong kind.Payload why.Absent = true
may_be_wrong kind.Payload (why.Length want found) = not (want == found)
may_be_wrong kind.Payload (why.Sum want found) = not (same_fp want found)
may_be_wrong kind other = false

-- whether a recipe that is only read may be refused for this
abbrev pub may_be_unreadable : Why → Bool
may_be_unreadable why.Absent = true
may_be_unreadable why.Spelling = true
may_be_unreadable other = false

-- whether another fault may refuse the line in some state: only the state says which payloads a restore names
abbrev pub may_ever_refuse : Limits → Line → Fault → Bool
may_ever_refuse limits (Restore s v name cache) (fault.Damaged kind.Payload number why) =
    may_be_wrong kind.Payload why
may_ever_refuse limits (Restore s v name cache) (fault.Damaged kind.Recipe number why) =
    (number == s * 2 ^ 32 + v) && may_be_wrong kind.Recipe why
may_ever_refuse limits line f = may_refuse limits (empty_state 0) line f

-- whether an answer is one for lines of this kind
abbrev pub fits : Limits → Line → Answer → Bool
fits limits line (Refused f) = may_ever_refuse limits line f || may_be_due line f
fits limits (Backup s name config) (Stored t v chunks bytes containers written sparse) = s == t
fits limits (Restore s v name cache) (Restored t w bytes loads) = (s == t) && (v == w)
fits limits (Delete s n) (Removed t through floor reclaimed) = (s == t) && (n == through)
fits limits line other = false

-- one answer for each line, of its kind
abbrev pub AreFitting : Limits → List Line → List Answer → Type 0
AreFitting limits [] [] = Unit {0}
AreFitting limits [] (answer ∷ answers) = ⊥
AreFitting limits (line ∷ lines) [] = ⊥
AreFitting limits (line ∷ lines) (answer ∷ answers) =
    IsTrue (fits limits line answer) × AreFitting limits lines answers

-- the numbers that faults carry

abbrev pub store_number : Answer → Option ℕ
store_number (Refused (fault.StoreFault n)) = Some n
store_number other = None

abbrev pub place_number : Answer → Option ℕ
place_number (Refused (fault.PlaceFault n)) = Some n
place_number other = None

abbrev pub read_number : Answer → Option ℕ
read_number (Refused (fault.ReadFault n)) = Some n
read_number other = None

abbrev pub write_number : Answer → Option ℕ
write_number (Refused (fault.WriteFault n)) = Some n
write_number other = None

-- the counts of faults from which these numbers come
pub record Counts : Type 0 where
  pub store : ℕ
  pub place : ℕ
  pub read : ℕ
  pub write : ℕ

-- of a script over places
abbrev pub counts_over : ShelfTold → PlacesTold → Counts
counts_over shelf places =
    record {
      store = shelf.faults;
      place = places.faults;
      read = places.read_faults;
      write = places.write_faults;
    }

-- of a single call over a source, over a sink, or over the shelf alone
abbrev pub counts_of_source : ShelfTold → SourceTold → Counts
counts_of_source shelf input = record { store = shelf.faults; place = 0; read = input.faults; write = 0 }

abbrev pub counts_of_sink : ShelfTold → SinkTold → Counts
counts_of_sink shelf out = record { store = shelf.faults; place = 0; read = 0; write = out.faults }

abbrev pub counts_of_shelf : ShelfTold → Counts
counts_of_shelf shelf = record { store = shelf.faults; place = 0; read = 0; write = 0 }

-- each number lies above the count at the start and not above the count at the end, and they rise
-- from answer to answer
pub record CausesRise (old new : Counts) (answers : List Answer) : Type 0 where
  pub store : RiseFrom old.store (filter_map store_number answers) new.store
  pub place : RiseFrom old.place (filter_map place_number answers) new.place
  pub read : RiseFrom old.read (filter_map read_number answers) new.read
  pub write : RiseFrom old.write (filter_map write_number answers) new.write

-- the same in some order of their own, as where restores go on beside later lines
abbrev pub RiseInSomeOrder : ℕ → List ℕ → ℕ → Type 0
RiseInSomeOrder before ns now = (ms : List ℕ) × IsPermutation ns ms × RiseFrom before ms now

-- the answers of backups and deletions
abbrev pub answers_of_changes : List Line → List Answer → List Answer
answers_of_changes [] answers = []
answers_of_changes (line ∷ lines) [] = []
answers_of_changes (Backup s name config ∷ lines) (answer ∷ answers) =
    answer ∷ answers_of_changes lines answers
answers_of_changes (Restore s v name cache ∷ lines) (answer ∷ answers) = answers_of_changes lines answers
answers_of_changes (Delete s n ∷ lines) (answer ∷ answers) = answer ∷ answers_of_changes lines answers

pub record AnswersHaveCauses (old new : Counts) (lines : List Line) (answers : List Answer) : Type 0 where
  pub store : RiseInSomeOrder old.store (filter_map store_number answers) new.store
  pub place : RiseInSomeOrder old.place (filter_map place_number answers) new.place
  pub read : RiseInSomeOrder old.read (filter_map read_number answers) new.read
  pub write : RiseInSomeOrder old.write (filter_map write_number answers) new.write
  -- those of backups and deletions rise from line to line
  pub changes : RiseFrom old.store (filter_map store_number (answers_of_changes lines answers)) new.store

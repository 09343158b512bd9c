-- What the calls of a keeper that run one line ensure: a backup of what a source has left, a
-- restore to a sink, and a deletion. What the keeper keeps is given: a state, and the change that a
-- failed write may have made; and the names that it knows as strays.
use Rattle.std.specs.Prelude.{◌≡◌, ◌≤◌, ◌<◌, ℕ, Bool, true, false, not, IsTrue, List, [], ◌∷◌, length, Option, IfSome, IfOk, IfErr, OnOk, Result, Ok, Err, ◌⊎◌, ◌+◌, ◌*◌, unwrap_or}
use Rattle.vault_types.specs.declared.Limits.{Limits}
use Rattle.vault_types.specs.declared.JobConfig.{JobConfig}
use Rattle.vault_types.specs.declared.Name.{Name}
use Rattle.vault_types.specs.declared.Kind.TheVariants as kind
use Rattle.vault_types.specs.declared.Why.TheVariants as why
use Rattle.vault_types.specs.declared.Fault.{Fault}
use Rattle.vault_types.specs.declared.Fault.TheVariants as fault
use Rattle.vault_types.specs.declared.Answer.{Answer}
use Rattle.vault_types.specs.declared.Answer.TheVariants.{Refused}
use Rattle.vault_types.specs.declared.Line.TheVariants.{Backup, Restore, Delete}
use Rattle.vault_types.specs.Cuts.{cuts, settled}
use Rattle.vault_types.specs.State.{State}
use Rattle.vault_types.specs.Bytes.{bytes_of}
use Rattle.vault_types.specs.Events.{Change}
use Rattle.vault_types.specs.Script.{after, is_refused}
use Rattle.vault_traits.specs.Counts.{added}
use Rattle.vault_traits.specs.Files.{AreKept, ChangesOnly, IsEmptied, IsNewWriter, IsReaderOf, IsWhatWasTaken}
use Rattle.vault_traits.specs.Told.{ShelfTold, SourceTold, SinkTold, PlacesTold, Gives, Takes}
use Rattle.store_model.specs.Causes.{CausesRise, fits, counts_of_source, counts_of_sink, counts_of_shelf}
use Rattle.store_model.specs.Outputs.{IsFrontOf}
use Rattle.store_model.specs.Steps.{answer_of, read_numbered, write_numbered, StepsOn}

-- what a keeper keeps at a moment
abbrev pub Keeping : Type 1
Keeping = State → Option Change → Type 0

-- the source gave at most so many bytes
abbrev pub GivesAtMost : ℕ → SourceTold → SourceTold → Type 0
GivesAtMost most from to = (read : List ℕ) × Gives from.left to.left read × (length read ≤ most)

-- the bytes that were read are too many: so many chunks of them are settled, or there are so many
-- as nothing is left, or there are more bytes than the limit's chunks can have
abbrev pub AreTooManyBytes : Limits → JobConfig → List ℕ → SourceTold → Type 0
AreTooManyBytes limits config read to =
    (limits.chunks < length (settled read config.cutting))
    ⊎ ((IfSome to.left (λ rest. rest ≡ []) × (limits.chunks < length (cuts read config.cutting)))
    ⊎ (limits.chunks * 65536 < length read))

-- a line with the name [] stands for the call alone
pub record BacksUpLine (before behind : Keeping) (Known Behind : Name → Type 0) (limits : Limits) (set : ℕ)
    (config : JobConfig) (old new : ShelfTold) (from to : SourceTold)
    (result : Result Answer Fault) : Type 0 where
  -- the bytes that the source gave; where it tells nothing, it is taken to have no others
  pub read : List ℕ
  pub given : Gives from.left to.left read
  pub within : length read ≤ limits.chunks * 65536 + 65536
  pub too_many : (n : ℕ) → result ≡ Err (fault.TooMany n) → AreTooManyBytes limits config read to
  pub done : IfOk result (λ a. is_refused a ≡ false)
  pub kind : IsTrue (fits limits (Backup set [] config) (answer_of result))
  pub causes : CausesRise (counts_of_source old from) (counts_of_source new to) (answer_of result ∷ [])
  pub steps : (S : State) (other : Option Change) → before S other
      → (next : Option Change)
      × behind (after (λ _. unwrap_or from.left read) S (Backup set [] config) (answer_of result)) next
      × StepsOn limits (λ _. unwrap_or from.left read) S other (Backup set [] config) (answer_of result) next
      Known Behind old new
  pub to_the_end : OnOk result (IfSome to.left (λ rest. rest ≡ []))

-- whether a restore writes all bytes of its version: one that is done does, and one that finds that
-- they have another sum
abbrev pub writes_all : Answer → Bool
writes_all (Refused (fault.Damaged kind.Recipe number (why.Whole want found))) = true
writes_all answer = not (is_refused answer)

-- what a restore has written to a sink: all bytes of the version, or a front of them
abbrev pub HasWritten : State → ℕ → ℕ → Answer → Option (List ℕ) → Option (List ℕ) → Type 0
HasWritten S s v answer before now =
    (front : List ℕ) × IsFrontOf front (bytes_of S s v) × Takes before now front
    × (IsTrue (writes_all answer) → front ≡ bytes_of S s v)

-- where the sink failed, it has taken less than these bytes; where their sum is another, all of them
abbrev pub IsShortAt : List ℕ → Option (List ℕ) → Option (List ℕ) → Fault → Type 0
IsShortAt bytes before now (fault.WriteFault n) =
    (front : List ℕ) × Takes before now front × (length front < length bytes)
IsShortAt bytes before now (fault.Damaged kind.Recipe number (why.Whole want found)) = Takes before now bytes
IsShortAt bytes before now other = Unit {0}

pub record RestoresLine (before behind : Keeping) (Known Behind : Name → Type 0) (set version slots : ℕ)
    (old new : ShelfTold) (from to : SinkTold) (result : Result Answer Fault) : Type 0 where
  pub done : IfOk result (λ a. is_refused a ≡ false)
  pub kind : (limits : Limits) → IsTrue (fits limits (Restore set version [] slots) (answer_of result))
  pub causes : CausesRise (counts_of_sink old from) (counts_of_sink new to) (answer_of result ∷ [])
  pub steps : (S : State) (other : Option Change) (limits : Limits) → before S other
      → (next : Option Change)
      × behind (after (λ _. []) S (Restore set version [] slots) (answer_of result)) next
      × StepsOn limits (λ _. []) S other (Restore set version [] slots) (answer_of result) next Known Behind
      old new
  pub blobs : (S : State) (other : Option Change) → before S other → new.blobs ≡ old.blobs
  pub written : (S : State) (other : Option Change) → before S other
      → HasWritten S set version (answer_of result) from.taken to.taken
  pub short : (S : State) (other : Option Change) → before S other
      → IfErr result (IsShortAt (bytes_of S set version) from.taken to.taken)

pub record DeletesLine (before behind : Keeping) (Known Behind : Name → Type 0) (set through : ℕ)
    (old new : ShelfTold) (result : Result Answer Fault) : Type 0 where
  pub done : IfOk result (λ a. is_refused a ≡ false)
  pub kind : (limits : Limits) → IsTrue (fits limits (Delete set through) (answer_of result))
  pub causes : CausesRise (counts_of_shelf old) (counts_of_shelf new) (answer_of result ∷ [])
  pub steps : (S : State) (other : Option Change) (limits : Limits) → before S other
      → (next : Option Change) × behind (after (λ _. []) S (Delete set through) (answer_of result)) next
      × StepsOn limits (λ _. []) S other (Delete set through) (answer_of result) next Known Behind old new

-- the places around a call: opened is how they stand behind the opening, and closed behind the closing

-- a source was opened and closed, of which the call left what `to` says
pub record AroundSource (before opened closed : PlacesTold) (name : List ℕ)
    (from to : SourceTold) : Type 0 where
  pub reader : IsReaderOf before.files name from
  pub opened_files : AreKept before.files opened.files
  pub later : before.faults ≤ opened.faults
  pub reads : opened.read_faults ≡ before.read_faults
  pub writes : opened.write_faults ≡ before.write_faults
  pub closed_files : AreKept opened.files closed.files
  pub same : closed.faults ≡ opened.faults
  pub added_reads : closed.read_faults ≡ added opened.read_faults to.faults
  pub same_writes : closed.write_faults ≡ opened.write_faults

-- a sink was opened and closed, which the call left as `to` says
pub record AroundSink (before opened closed : PlacesTold) (name : List ℕ) (from to : SinkTold) : Type 0 where
  pub writer : IsNewWriter before.files from
  pub opened_files : ChangesOnly before.files opened.files name IsEmptied
  pub later : before.faults ≤ opened.faults
  pub reads : opened.read_faults ≡ before.read_faults
  pub writes : opened.write_faults ≡ before.write_faults
  pub closed_files : ChangesOnly opened.files closed.files name (IsWhatWasTaken to.taken)
  pub same : closed.faults ≡ opened.faults
  pub same_reads : closed.read_faults ≡ opened.read_faults
  pub added_writes : closed.write_faults ≡ added opened.write_faults to.faults

-- the answer of a line whose call gave this result, where the places count so many failed reads, or writes
abbrev pub backup_answer : ℕ → Result Answer Fault → Answer
backup_answer n (Ok answer) = answer
backup_answer n (Err f) = Refused (read_numbered n f)

abbrev pub restore_answer : ℕ → Result Answer Fault → Answer
restore_answer n (Ok answer) = answer
restore_answer n (Err f) = Refused (write_numbered n f)

-- What a run of each command is, from its first line on.
use Rattle.std.specs.Prelude.{◌≡◌, ◌≤◌, ◌+◌, ◌*◌, ◌^◌, ◌&&◌, ◌==◌, ℕ, Bool, true, false, IsTrue, List, [], ◌∷◌, length, unwrap_or, Option, IsSomeAnd, IfSome}
use Rattle.vault_types.specs.declared.Limits.{Limits}
use Rattle.vault_types.specs.declared.JobConfig.{JobConfig}
use Rattle.vault_types.specs.declared.Kind.TheVariants as kind
use Rattle.vault_types.specs.declared.Fault.{Fault}
use Rattle.vault_types.specs.declared.Fault.TheVariants as fault
use Rattle.vault_types.specs.declared.Answer.{Answer}
use Rattle.vault_types.specs.declared.Answer.TheVariants.{Shown, Refused}
use Rattle.vault_types.specs.declared.Line.{Line}
use Rattle.vault_types.specs.declared.Line.TheVariants.{Backup, Restore, Delete}
use Rattle.vault_types.specs.State.{State, is_kept, floor_of, latest_of, version_of, recipe_of}
use Rattle.vault_types.specs.Script.{is_refused}
use Rattle.vault_types.specs.Texts.{recipe_text}
use Rattle.vault_traits.specs.Told.{ShelfTold, SinkTold, Gives, Takes}
use Rattle.store_model.specs.Calls.{GivesAtMost, HasWritten, AreTooManyBytes}
use Rattle.store_model.specs.Causes.{Counts, CausesRise, fits, may_be_unreadable, counts_of_source, counts_of_sink, counts_of_shelf}
use Rattle.store_model.specs.Complete.{IsWell, IsComplete}
use Rattle.store_model.specs.Leaves.{Begins}
use Rattle.store_model.specs.Script.{MeansScript, RunsLines}
use Rattle.store_model.specs.Strays.{StraysOf}
use Rattle.store_model.specs.World.{World, IsPrinted, TakesFront, report_text}
use Rattle.store_model.specs.Early.{IsScript}

-- a script of the input's lines over the places; at most one byte more than the limit was read of
-- it; the report is on `out`
pub record RunsBatch (in_order : Bool) (limits : Limits) (before now : World) (answers : List Answer)
    (f : Option Fault) : Type 0 where
  pub lines : List Line
  pub script : IsScript limits before.input lines
  pub read : IfSome now.input.left (λ rest. rest ≡ [])
  pub within : GivesAtMost (limits.script + 1) before.input now.input
  pub runs : RunsLines in_order (Begins before.shelf) (StraysOf before.shelf) limits lines answers
      before.shelf now.shelf before.places now.places
  pub printed : IsPrinted (report_text answers) before.out now.out f
  pub report : now.report ≡ before.report

-- the answer of a script of one line, whose source has these bytes: it is of the line's kind, a
-- refusal has its cause, and it means what it should in each state that the shelf may begin with
pub record RunsLine (limits : Limits) (x : List ℕ) (line : Line) (before now : ShelfTold) (answer : Answer)
    (old new : Counts) : Type 0 where
  pub kind : IsTrue (fits limits line answer)
  pub causes : CausesRise old new (answer ∷ [])
  pub means : (S : State) → Begins before S
      → MeansScript limits (λ _. x) S (line ∷ []) (answer ∷ []) (StraysOf before S) before now
  pub complete : (S : State) → Begins before S → IsWell limits (λ _. x) S (line ∷ [])
      → IsComplete limits (λ _. x) S (line ∷ []) (answer ∷ []) old new

-- a backup of what the input has left, or of what it gave where it tells nothing: at most as many
-- bytes as the limit's chunks can have and one read more; the report is on `out`
pub record RunsBackup (set : ℕ) (config : JobConfig) (limits : Limits) (before now : World)
    (answers : List Answer) (f : Option Fault) : Type 0 where
  pub answer : Answer
  pub one : answers ≡ answer ∷ []
  pub read : List ℕ
  pub given : Gives before.input.left now.input.left read
  pub within : length read ≤ limits.chunks * 65536 + 65536
  pub too_many : (n : ℕ) → answer ≡ Refused (fault.TooMany n) → AreTooManyBytes limits config read now.input
  pub runs : RunsLine limits (unwrap_or before.input.left read) (Backup set [] config) before.shelf now.shelf
      answer (counts_of_source before.shelf before.input) (counts_of_source now.shelf now.input)
  pub to_the_end : is_refused answer ≡ false → IfSome now.input.left (λ rest. rest ≡ [])
  pub printed : IsPrinted (report_text answers) before.out now.out f
  pub report : now.report ≡ before.report
  pub places : now.places ≡ before.places

-- a restore to `out`; the report is on `report`
pub record RunsRestore (set version cache : ℕ) (limits : Limits) (before now : World) (answers : List Answer)
    (f : Option Fault) : Type 0 where
  pub answer : Answer
  pub one : answers ≡ answer ∷ []
  pub runs : RunsLine limits [] (Restore set version [] cache) before.shelf now.shelf answer
      (counts_of_sink before.shelf before.out) (counts_of_sink now.shelf now.out)
  pub blobs : (S : State) → Begins before.shelf S → now.shelf.blobs ≡ before.shelf.blobs
  pub written : (S : State) → Begins before.shelf S
      → HasWritten S set version answer before.out.taken now.out.taken
  pub printed : IsPrinted (report_text answers) before.report now.report f
  pub input : now.input ≡ before.input
  pub places : now.places ≡ before.places

-- a deletion; the report is on `out`
pub record RunsDelete (set through : ℕ) (limits : Limits) (before now : World) (answers : List Answer)
    (f : Option Fault) : Type 0 where
  pub answer : Answer
  pub one : answers ≡ answer ∷ []
  pub runs : RunsLine limits [] (Delete set through) before.shelf now.shelf answer
      (counts_of_shelf before.shelf) (counts_of_shelf now.shelf)
  pub printed : IsPrinted (report_text answers) before.out now.out f
  pub report : now.report ≡ before.report
  pub input : now.input ≡ before.input
  pub places : now.places ≡ before.places

-- show

-- whether an answer is one to `show`
abbrev pub fits_show : ℕ → ℕ → Answer → Bool
fits_show s v (Shown t w rows) = (s == t) && (v == w)
fits_show s v (Refused (fault.NotKept t w floor latest)) = (s == t) && (v == w)
fits_show s v (Refused (fault.Damaged kind.Recipe number why)) =
    (number == s * 2 ^ 32 + v) && may_be_unreadable why
fits_show s v (Refused (fault.StoreFault n)) = true
fits_show s v (Refused (fault.WriteFault n)) = true
fits_show s v (Refused fault.Memory) = true
fits_show s v other = false

-- what `show` answers and writes of a version's recipe. A kept recipe is spelled, so that none is damaged
abbrev pub IsShown : State → ℕ → ℕ → Answer → SinkTold → SinkTold → Type 0
IsShown S s v (Shown t w rows) before now =
    IsSomeAnd (version_of S s v) (λ k. (rows ≡ length k.rows)
    × Takes before.taken now.taken (recipe_text (recipe_of s v k)))
IsShown S s v (Refused (fault.NotKept t w floor latest)) before now =
    (is_kept S s v ≡ false) × (floor ≡ floor_of S s) × (latest ≡ latest_of S s) × (now ≡ before)
IsShown S s v (Refused (fault.WriteFault n)) before now =
    IsSomeAnd (version_of S s v) (λ k. TakesFront before now (recipe_text (recipe_of s v k)))
IsShown S s v (Refused fault.Memory) before now =
    IsSomeAnd (version_of S s v) (λ k. TakesFront before now (recipe_text (recipe_of s v k)))
IsShown S s v (Refused (fault.StoreFault n)) before now = IsTrue (is_kept S s v) × (now ≡ before)
IsShown S s v other before now = ⊥

-- the recipe of a version on `out`; the report, which is empty where it was shown, is on `report`
pub record RunsShow (set version : ℕ) (before now : World) (answers : List Answer)
    (f : Option Fault) : Type 0 where
  pub answer : Answer
  pub one : answers ≡ answer ∷ []
  pub kind : IsTrue (fits_show set version answer)
  pub causes : CausesRise (counts_of_sink before.shelf before.out) (counts_of_sink now.shelf now.out) answers
  pub shown : (S : State) → Begins before.shelf S → IsShown S set version answer before.out now.out
  pub blobs : now.shelf.blobs ≡ before.shelf.blobs
  pub history : now.shelf.history ≡ before.shelf.history
  pub gets : now.shelf.gets ≡ before.shelf.gets
  pub printed : IsPrinted (report_text answers) before.report now.report f
  pub input : now.input ≡ before.input
  pub places : now.places ≡ before.places

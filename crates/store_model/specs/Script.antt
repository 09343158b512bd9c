-- A run of lines over a shelf and places.
use Rattle.std.specs.Prelude.{◌≡◌, ◌++◌, Bool, IsTrue, List, length}
use Rattle.vault_types.specs.declared.Limits.{Limits}
use Rattle.vault_types.specs.declared.Name.{Name}
use Rattle.vault_types.specs.declared.Answer.{Answer}
use Rattle.vault_types.specs.declared.Line.{Line}
use Rattle.vault_types.specs.State.{State, IsValid}
use Rattle.vault_types.specs.Bytes.{IsSound}
use Rattle.vault_types.specs.Shelf.{Stands}
use Rattle.vault_types.specs.Script.{Sources, state_after, Reaches}
use Rattle.vault_traits.specs.Crash.{LeavesNowIfTold}
use Rattle.vault_traits.specs.Told.{ShelfTold, PlacesTold}
use Rattle.store_model.specs.Causes.{AreFitting, CausesRise, AnswersHaveCauses, counts_over}
use Rattle.store_model.specs.Table.{MeanLines}
use Rattle.store_model.specs.Leaves.{LeavesShelf, BearsLines, BearsOnceDone}
use Rattle.store_model.specs.Outputs.{AreOutputs, KeepsOthers, OnFiles, Reads, AreRead, AreFed, AreThere}
use Rattle.store_model.specs.Strays.{StraysAreKnown, StraysOf}
use Rattle.store_model.specs.Complete.{IsSafe, IsWell, IsComplete}
use Rattle.store_model.specs.Keeping.{HasBytesOf, KeepBytes}

-- what lines mean in a state, where these names are known as strays: the table of answers, the
-- blobs, the recipes, the loads and the strays; what a crash leaves, where one at the beginning
-- leaves only what stands for the state, and behind each change that was done also where it does
-- not; that each version that stays keeps its bytes; and where the state is sound and no chunks
-- clash, that each version has its bytes, also in a state that a crash leaves behind the first
-- lines
pub record MeansScript (limits : Limits) (sources : Sources) (S : State) (lines : List Line)
    (answers : List Answer) (Known : Name → Type 0) (old new : ShelfTold) : Type 0 where
  pub table : MeanLines limits sources S lines answers
  pub shelf : LeavesShelf sources S lines answers old new
  pub strays : StraysAreKnown limits sources S lines answers Known
      (StraysOf new (state_after sources S lines answers)) old new
  pub crash : LeavesNowIfTold old.history (λ m. Stands m S)
      → BearsLines sources S (λ T. ⊥) lines answers old.history new.history
  pub once_done : BearsOnceDone sources S lines answers new.history
  pub kept : HasBytesOf S (state_after sources S lines answers)
  pub bytes : IsSafe sources S lines → KeepBytes sources S (state_after sources S lines answers) lines answers
  pub reached : (front rest : List Line) (given more : List Answer) (T : State) → lines ≡ front ++ rest
      → answers ≡ given ++ more → length front ≡ length given
      → IsSafe sources S lines → IsValid T → Reaches sources (state_after sources S front given) rest more T
      → IsSound T × KeepBytes sources S T front given

-- the lines ran: one answer for each, each refusal with its cause, where they ran in order in
-- script order; the source of each backup that is done is there; and in each state that they may
-- start from, with the strays that are known then and the bytes that were read, which are those
-- under the names where that is told, the answers, the shelf and the outputs are those that the
-- lines mean, and complete where all is well
pub record RunsLines (in_order : Bool) (From : State → Type 0) (Known : State → Name → Type 0)
    (limits : Limits) (lines : List Line) (answers : List Answer) (old new : ShelfTold)
    (before now : PlacesTold) : Type 0 where
  pub kinds : AreFitting limits lines answers
  pub causes : AnswersHaveCauses (counts_over old before) (counts_over new now) lines answers
  pub ordered : IsTrue in_order → CausesRise (counts_over old before) (counts_over new now) answers
  pub others : OnFiles before.files now.files (KeepsOthers lines)
  pub reads : Reads
  pub read : AreRead before.files lines reads
  pub there : AreThere before.files lines answers
  pub means : (S : State) (sources : Sources) → From S → AreFed sources reads
      → MeansScript limits sources S lines answers (Known S) old new
  pub outputs : (S : State) (sources : Sources) → From S → AreFed sources reads
      → OnFiles before.files now.files (AreOutputs sources S lines answers)
  pub complete : (S : State) (sources : Sources) → From S → AreFed sources reads
      → IsWell limits sources S lines
      → IsComplete limits sources S lines answers (counts_over old before) (counts_over new now)

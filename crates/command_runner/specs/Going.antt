-- A run from the opening of the shelf on, and that of a script.
use Rattle.std.specs.Prelude.{Bool, ◌≡◌, ◌⊎◌, ◌+◌, ℕ, List, [], Option, IsSome, IsSomeAnd, IfSome}
use Rattle.vault_types.specs.declared.Limits.{Limits}
use Rattle.vault_types.specs.declared.Line.{Line}
use Rattle.vault_types.specs.declared.Fault.{Fault}
use Rattle.vault_types.specs.declared.Answer.{Answer}
use Rattle.vault_types.specs.Script.{Sources}
use Rattle.vault_types.specs.State.{State}
use Rattle.vault_traits.specs.Told.{PlacesTold, ShelfTold, SourceTold}
use Rattle.store_model.specs.Calls.{GivesAtMost}
use Rattle.store_model.specs.Leaves.{Begins}
use Rattle.store_model.specs.Outputs.{AreFedBy}
use Rattle.store_model.specs.Room.{NeedRoom}
use Rattle.store_model.specs.Script.{RunsLines}
use Rattle.store_model.specs.Strays.{StraysOf}
use Rattle.store_model.specs.World.{World, status_after, IsTold}
use Rattle.store_model.specs.Early.{HasOpened, IsSameBut, IsScript, IsScriptFault, IsStartFault}
use Rattle.store_model.specs.Run.{EndsAtOpening, RanLines, RunsOpened, with_input}

-- it ends where the shelf is opened, or the shelf opens and it runs as told; and its status
pub record GoesOn (Runs : World → World → List Answer → Option Fault → Type 0) (before now : World)
    (answers : List Answer) (f : Option Fault) (status : ℕ) : Type 0 where
  pub course : IsSomeAnd f (EndsAtOpening before now answers) ⊎ RunsOpened Runs before now answers f
  pub status_is : status ≡ status_after answers f

-- the shelf opened, and these lines ran over it
pub record HasRun (in_order : Bool) (before : ShelfTold) (limits : Limits) (lines : List Line)
    (p q : PlacesTold) (answers : List Answer) (now : ShelfTold) : Type 0 where
  pub opened : HasOpened before
  pub runs : RunsLines in_order (Begins before) (StraysOf before) limits lines answers before now p q

-- where the sinks of the places have room for so many bytes, one failed only where its version is
-- longer
abbrev pub HasRoom : ShelfTold → List Line → PlacesTold → Option ℕ → List Answer → Type 0
HasRoom before lines p room answers =
    (T : State) (sources : Sources) → Begins before T → AreFedBy p.files sources lines
    → IsSome p.files → NeedRoom room sources T lines answers

-- it did not, or there was no memory for the answers of lines
pub record HasNotOpened (before : ShelfTold) (p q : PlacesTold) (f : Fault) (now : ShelfTold) : Type 0 where
  pub same : IsSameBut before now
  pub why : IsStartFault before now f
  pub places : q ≡ p

-- a script could not be read: there is no answer, and nothing was written but the fault's line
pub record RefusesScript (limits : Limits) (before now : World) (answers : List Answer)
    (f : Fault) : Type 0 where
  pub why : IsScriptFault limits before.input now.input f
  pub within : GivesAtMost (limits.script + 1) before.input now.input
  pub none : answers ≡ []
  pub shelf : now.shelf ≡ before.shelf
  pub places : now.places ≡ before.places
  pub out : now.out ≡ before.out
  pub line : IsTold f before.report now.report

-- a script was read to its end; it ends where the shelf is opened, or its lines run
pub record RunsScript (in_order : Bool) (limits : Limits) (before now : World) (answers : List Answer)
    (f : Option Fault) : Type 0 where
  pub input : SourceTold
  pub lines : List Line
  pub script : IsScript limits before.input lines
  pub read : IfSome input.left (λ rest. rest ≡ [])
  pub within : GivesAtMost (limits.script + 1) before.input input
  pub goes : IsSomeAnd f (EndsAtOpening (with_input before input) now answers)
      ⊎ RunsOpened (RanLines in_order lines limits) (with_input before input) now answers f

pub record BatchGoes (in_order : Bool) (limits : Limits) (before now : World) (answers : List Answer)
    (f : Option Fault) (status : ℕ) : Type 0 where
  pub course : IsSomeAnd f (RefusesScript limits before now answers) ⊎ RunsScript in_order limits before now answers f
  pub status_is : status ≡ status_after answers f

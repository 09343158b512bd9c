-- A run that ended before its first line.
use Rattle.std.specs.Prelude.{◌≡◌, ◌⊎◌, ◌<◌, ◌≤◌, ◌+◌, ℕ, List, [], ◌∷◌, length, Option, Some, None, IfSome, Ok, Err}
use Rattle.vault_types.specs.declared.Limits.{Limits}
use Rattle.vault_types.specs.declared.Command.{Command}
use Rattle.vault_types.specs.declared.Command.TheVariants as command
use Rattle.vault_types.specs.declared.Line.{Line}
use Rattle.vault_types.specs.declared.Fault.{Fault}
use Rattle.vault_types.specs.declared.Fault.TheVariants as fault
use Rattle.vault_types.specs.declared.Answer.{Answer}
use Rattle.vault_types.specs.State.{State}
use Rattle.vault_types.specs.Words.{command_of, script_of}
use Rattle.vault_traits.specs.Counts.{RiseFrom}
use Rattle.vault_traits.specs.Told.{ShelfTold, SourceTold}
use Rattle.vault_traits.specs.Causes.{IsCause}
use Rattle.vault_types.specs.FirstDamage.{Opens, IsDamageOf}
use Rattle.store_model.specs.Calls.{GivesAtMost}
use Rattle.store_model.specs.World.{World, IsTold}

abbrev pub IsBatch : Option Command → Type 0
IsBatch (Some (command.Batch queue lanes workers)) = Unit {0}
IsBatch other = ⊥

-- the source's bytes are a script within the limit, with these lines; nothing is said where it tells nothing
abbrev pub IsScript : Limits → SourceTold → List Line → Type 0
IsScript limits input lines =
    IfSome input.left (λ text. (length text ≤ limits.script) × (script_of text ≡ Ok lines))

-- why the reading of a script is refused
abbrev pub IsScriptFault : Limits → SourceTold → SourceTold → Fault → Type 0
IsScriptFault limits old new fault.Memory = Unit {0}
IsScriptFault limits old new (fault.ReadFault n) = RiseFrom old.faults (n ∷ []) new.faults
IsScriptFault limits old new (fault.ScriptTooLong limit) =
    (limit ≡ limits.script) × IfSome old.left (λ text. limits.script < length text)
IsScriptFault limits old new (fault.BadLine n) =
    IfSome old.left (λ text. (length text ≤ limits.script) × (script_of text ≡ Err n))
IsScriptFault limits old new other = ⊥

-- the blobs of the shelf, where they are told, open as a state
abbrev pub HasOpened : ShelfTold → Type 0
HasOpened shelf = IfSome shelf.blobs (λ m. (T : State) × Opens m T)

-- why the opening of a shelf is refused: no memory, a shelf that failed, or the first damage in the
-- order of opening
abbrev pub IsStartFault : ShelfTold → ShelfTold → Fault → Type 0
IsStartFault old new f = IsCause old.faults new.faults (IsDamageOf old.blobs) f

-- the shelf is as before, but that its count of faults may have risen
pub record IsSameBut (old new : ShelfTold) : Type 0 where
  pub blobs : new.blobs ≡ old.blobs
  pub history : new.history ≡ old.history
  pub gets : new.gets ≡ old.gets
  pub later : old.faults ≤ new.faults

-- the words are a command, and if it takes a script, that is one
abbrev pub CanOpen : Option Command → Limits → SourceTold → Type 0
CanOpen None limits input = ⊥
CanOpen (Some (command.Batch queue lanes workers)) limits input =
    (lines : List Line) × IsScript limits input lines
CanOpen (Some other) limits input = Unit {0}

-- why a run ends before its first line: the words are no command, a script could not be read or is
-- none, or the shelf could not be opened; and for want of memory
abbrev pub IsEarly : List (List ℕ) → Limits → World → World → Fault → Type 0
IsEarly words limits before now fault.Memory = Unit {0}
IsEarly words limits before now fault.Usage = command_of words ≡ None
IsEarly words limits before now (fault.StoreFault n) =
    CanOpen (command_of words) limits before.input × IsStartFault before.shelf now.shelf (fault.StoreFault n)
IsEarly words limits before now (fault.Damaged kind number why) =
    CanOpen (command_of words) limits before.input
    × IsStartFault before.shelf now.shelf (fault.Damaged kind number why)
IsEarly words limits before now other =
    IsBatch (command_of words) × IsScriptFault limits before.input now.input other

-- the faults that come before the shelf is touched leave it
abbrev pub LeavesShelfAlone : ShelfTold → ShelfTold → Fault → Type 0
LeavesShelfAlone before now fault.Usage = now ≡ before
LeavesShelfAlone before now (fault.ReadFault n) = now ≡ before
LeavesShelfAlone before now (fault.ScriptTooLong limit) = now ≡ before
LeavesShelfAlone before now (fault.BadLine n) = now ≡ before
LeavesShelfAlone before now other = IsSameBut before now

-- there is no answer, and nothing was written but the fault's line; only a script's command reads
-- the input, and at most one byte more than the limit
pub record EndsEarly (words : List (List ℕ)) (limits : Limits) (before now : World) (answers : List Answer)
    (f : Fault) : Type 0 where
  pub why : IsEarly words limits before now f
  pub none : answers ≡ []
  pub shelf : LeavesShelfAlone before.shelf now.shelf f
  pub places : now.places ≡ before.places
  pub input : (IsBatch (command_of words) × GivesAtMost (limits.script + 1) before.input now.input)
      ⊎ (now.input ≡ before.input)
  pub out : now.out ≡ before.out
  pub line : IsTold f before.report now.report

-- A run of the program's words.
use Rattle.std.specs.Prelude.{◌≡◌, ◌⊎◌, ◌<◌, ◌^◌, ◌-◌, ℕ, Bool, List, [], Option, None, IsSomeAnd}
use Rattle.vault_types.specs.declared.Limits.{Limits}
use Rattle.vault_types.specs.declared.Command.{Command}
use Rattle.vault_types.specs.declared.Command.TheVariants as command
use Rattle.vault_types.specs.declared.Fault.{Fault}
use Rattle.vault_types.specs.declared.Answer.{Answer}
use Rattle.vault_types.specs.Words.{command_of}
use Rattle.vault_types.specs.declared.Line.{Line}
use Rattle.vault_traits.specs.Told.{SourceTold}
use Rattle.store_model.specs.Leaves.{Begins}
use Rattle.store_model.specs.Script.{RunsLines}
use Rattle.store_model.specs.Strays.{StraysOf}
use Rattle.store_model.specs.World.{World, status_after, IsPrinted, IsTold, report_text}
use Rattle.store_model.specs.Early.{EndsEarly, HasOpened, IsStartFault, IsSameBut}
use Rattle.store_model.specs.Courses.{RunsBatch, RunsBackup, RunsRestore, RunsDelete, RunsShow}
use Rattle.store_model.specs.Filling.{RunsFill}
use Rattle.store_model.specs.Migrating.{RunsMigrate}

-- what a run of a command is, from its first line on
abbrev pub Course : Type 1
Course = Limits → World → World → List Answer → Option Fault → Type 0

-- a run over a shelf that opened
pub record RunsOpened (Runs : World → World → List Answer → Option Fault → Type 0) (before now : World)
    (answers : List Answer) (f : Option Fault) : Type 0 where
  pub opened : HasOpened before.shelf
  pub runs : Runs before now answers f

-- the scripts from words, from the input and of `fill`, `show` and `migrate`. What the other
-- commands do is given: a backup with the sampled index, a restore by areas, and `scrub`
abbrev pub Runs : Bool → (Command → Course) → Command → Course
Runs in_order Others (command.Backup set config queue lanes None) limits before now answers f =
    RunsOpened (RunsBackup set config limits) before now answers f
Runs in_order Others (command.Restore set version cache None) limits before now answers f =
    RunsOpened (RunsRestore set version cache limits) before now answers f
Runs in_order Others (command.Delete set through) limits before now answers f =
    RunsOpened (RunsDelete set through limits) before now answers f
Runs in_order Others (command.Show set version) limits before now answers f =
    RunsOpened (RunsShow set version) before now answers f
Runs in_order Others (command.Batch queue lanes workers) limits before now answers f =
    RunsOpened (RunsBatch in_order limits) before now answers f
Runs in_order Others (command.Fill seed versions queue lanes workers) limits before now answers f =
    RunsOpened (RunsFill in_order seed versions limits) before now answers f
Runs in_order Others command.Migrate limits before now answers f = RunsOpened RunsMigrate before now answers f
Runs in_order Others other limits before now answers f = Others other limits before now answers f

-- a run of the words: it ends before its first line, with a fault that has its cause, or its shelf
-- opens and it runs as the command says. So over blobs that stand for no state it ends before its
-- first line, and leaves them
pub record IsRun (in_order : Bool) (Others : Command → Course) (words : List (List ℕ)) (limits : Limits)
    (before now : World) (answers : List Answer) (f : Option Fault) (status : ℕ) : Type 0 where
  pub course : IsSomeAnd f (EndsEarly words limits before now answers)
      ⊎ IsSomeAnd (command_of words) (λ c. Runs in_order Others c limits before now answers f)
  pub status_is : status ≡ status_after answers f

-- no count of faults of what was handed in rose, or stands at its last value
pub record NoneRose (before now : World) : Type 0 where
  pub shelf : (now.shelf.faults ≡ before.shelf.faults) × (before.shelf.faults < 2 ^ 64 - 1)
  pub places : (now.places.faults ≡ before.places.faults) × (before.places.faults < 2 ^ 64 - 1)
  pub reads : (now.places.read_faults ≡ before.places.read_faults) × (before.places.read_faults < 2 ^ 64 - 1)
  pub writes : (now.places.write_faults ≡ before.places.write_faults)
      × (before.places.write_faults < 2 ^ 64 - 1)
  pub input : (now.input.faults ≡ before.input.faults) × (before.input.faults < 2 ^ 64 - 1)
  pub out : (now.out.faults ≡ before.out.faults) × (before.out.faults < 2 ^ 64 - 1)
  pub report : (now.report.faults ≡ before.report.faults) × (before.report.faults < 2 ^ 64 - 1)

-- the world with the input as it was left
abbrev pub with_input : World → SourceTold → World
with_input w input =
    record { shelf = w.shelf; places = w.places; input = input; out = w.out; report = w.report }

-- a run that ended where the shelf was opened, or for want of memory behind that
pub record EndsAtOpening (before now : World) (answers : List Answer) (f : Fault) : Type 0 where
  pub why : IsStartFault before.shelf now.shelf f
  pub none : answers ≡ []
  pub shelf : IsSameBut before.shelf now.shelf
  pub places : now.places ≡ before.places
  pub input : now.input ≡ before.input
  pub out : now.out ≡ before.out
  pub line : IsTold f before.report now.report

-- lines that ran over the places, with the report on `out`
pub record RanLines (in_order : Bool) (lines : List Line) (limits : Limits) (before now : World)
    (answers : List Answer) (f : Option Fault) : Type 0 where
  pub runs : RunsLines in_order (Begins before.shelf) (StraysOf before.shelf) limits lines answers
      before.shelf now.shelf before.places now.places
  pub printed : IsPrinted (report_text answers) before.out now.out f
  pub report : now.report ≡ before.report
  pub input : now.input ≡ before.input

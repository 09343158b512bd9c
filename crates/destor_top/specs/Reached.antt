-- What each command does, and which of them a run makes.
use Rattle.std.specs.Prelude.{◌≡◌, ◌⊎◌, ℕ, List, [], Option, Some, None, IsSome}
use Rattle.vault_types.specs.declared.Limits.{Limits}
use Rattle.vault_types.specs.declared.Command.{Command}
use Rattle.vault_types.specs.declared.Command.TheVariants as command
use Rattle.vault_types.specs.declared.Fault.{Fault}
use Rattle.vault_types.specs.declared.Fault.TheVariants as fault
use Rattle.vault_types.specs.declared.Answer.{Answer}
use Rattle.vault_types.specs.Words.{command_of}
use Rattle.vault_types.specs.Bytes.{IsSound}
use Rattle.vault_types.specs.State.{State}
use Rattle.store_model.specs.Leaves.{Begins}
use Rattle.store_model.specs.World.{World}
use Rattle.store_model.specs.Early.{CanOpen, IsBatch}
use Rattle.store_model.specs.Run.{Course, RunsOpened, NoneRose}
use Rattle.scrub_model.specs.Scrubbing.{RunsScrub}
use Rattle.command_runner.specs.Unbuilt.{IsUnbuilt}
use Rattle.command_runner.specs.Completes.{IsBuilt}

-- beside the commands of `Runs`: a scrub. A backup with the sampled index and a restore by areas are not built
abbrev pub Reached : Command → Course
Reached (command.Scrub workers) limits before now answers f = RunsOpened RunsScrub before now answers f
Reached other limits before now answers f = IsUnbuilt before now answers f

abbrev pub IsReached : Command → Type 0
IsReached (command.Scrub workers) = Unit {0}
IsReached other = IsBuilt other

-- over a sound shelf, where no count of faults rose and the words and the script, whose text is
-- told, are in the grammar, there is no fault, or it is a want of memory before the first line
abbrev pub IsCompleteRun : List (List ℕ) → Limits → World → World → List Answer → Option Fault → Type 0
IsCompleteRun words limits before now answers f =
    (c : Command) (S : State) → command_of words ≡ Some c → IsReached c → CanOpen (Some c) limits before.input
    → (IsBatch (Some c) → IsSome before.input.left)
    → Begins before.shelf S → IsSound S → NoneRose before now
    → (f ≡ None) ⊎ ((answers ≡ []) × (f ≡ Some fault.Memory))

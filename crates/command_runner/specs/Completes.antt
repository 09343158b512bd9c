-- Completeness: where all is well before the first line and nothing fails, there is no fault. What
-- the lines then answer is a part of the run itself (`IsRun`).
use Rattle.std.specs.Prelude.{◌≡◌, ◌⊎◌, ℕ, List, [], Option, Some, None, IsSome}
use Rattle.vault_types.specs.declared.Limits.{Limits}
use Rattle.vault_types.specs.declared.Command.{Command}
use Rattle.vault_types.specs.declared.Command.TheVariants as command
use Rattle.vault_types.specs.declared.Fault.{Fault}
use Rattle.vault_types.specs.declared.Fault.TheVariants as fault
use Rattle.vault_types.specs.declared.Answer.{Answer}
use Rattle.vault_types.specs.Words.{command_of}
use Rattle.vault_types.specs.Bytes.{IsSound}
use Rattle.vault_types.specs.State.{State}
use Rattle.store_model.specs.Leaves.{Begins}
use Rattle.store_model.specs.World.{World}
use Rattle.store_model.specs.Early.{CanOpen, IsBatch}
use Rattle.store_model.specs.Run.{NoneRose}

-- the commands that a run makes
abbrev pub IsBuilt : Command → Type 0
IsBuilt (command.Backup set config queue lanes None) = Unit {0}
IsBuilt (command.Restore set version cache None) = Unit {0}
IsBuilt (command.Delete set through) = Unit {0}
IsBuilt (command.Show set version) = Unit {0}
IsBuilt (command.Batch queue lanes workers) = Unit {0}
IsBuilt (command.Fill seed versions queue lanes workers) = Unit {0}
IsBuilt command.Migrate = Unit {0}
IsBuilt other = ⊥

-- over a sound shelf, where no count of faults rose and the words and the script, whose text is
-- told, are in the grammar, there is no fault, or it is a want of memory before the first line
abbrev pub IsCompleteRun : List (List ℕ) → Limits → World → World → List Answer → Option Fault → Type 0
IsCompleteRun words limits before now answers f =
    (c : Command) (S : State) → command_of words ≡ Some c → IsBuilt c → CanOpen (Some c) limits before.input
    → (IsBatch (Some c) → IsSome before.input.left)
    → Begins before.shelf S → IsSound S → NoneRose before now
    → (f ≡ None) ⊎ ((answers ≡ []) × (f ≡ Some fault.Memory))

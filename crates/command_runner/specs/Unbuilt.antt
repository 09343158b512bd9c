-- The commands that no run makes yet.
use Rattle.std.specs.Prelude.{◌≡◌, List, [], Option, Some}
use Rattle.vault_types.specs.declared.Command.{Command}
use Rattle.vault_types.specs.declared.Fault.{Fault}
use Rattle.vault_types.specs.declared.Fault.TheVariants as fault
use Rattle.vault_types.specs.declared.Answer.{Answer}
use Rattle.store_model.specs.World.{World, IsTold}
use Rattle.store_model.specs.Run.{Course}

-- it is refused like words that are no command, and nothing but the fault's line is written
pub record IsUnbuilt (before now : World) (answers : List Answer) (f : Option Fault) : Type 0 where
  pub usage : f ≡ Some fault.Usage
  pub none : answers ≡ []
  pub shelf : now.shelf ≡ before.shelf
  pub places : now.places ≡ before.places
  pub input : now.input ≡ before.input
  pub out : now.out ≡ before.out
  pub line : IsTold fault.Usage before.report now.report

abbrev pub Unbuilt : Command → Course
Unbuilt command limits before now answers f = IsUnbuilt before now answers f

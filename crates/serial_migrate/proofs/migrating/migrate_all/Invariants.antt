use Rattle.std.proofs.Common.{◌+◌, ◌-◌, ◌*◌, ◌≤◌, Option}
use Rattle.vault_types.specs.State.{State}
use Rattle.vault_types.specs.Events.{Change}
use Rattle.store_model.specs.Migrating.{versions_below}
use Rattle.keeper_core.specs.Keeping.{IsStateOf}
use Rattle.serial_migrate.specs.Going.{IsLaterOf, Gone}
use Rattle.serial_migrate.proofs.Steps.{InSet}
use Rattle.serial_migrate.proofs.migrating.migrate_all.Given as goal

abbrev pub invariant-loop-number : goal.invariant-loop-number
invariant-loop-number g l = record {
  low : l.number ≤ 256;
  small : l.recipes ≤ l.number * 4294967296;
  later : IsLaterOf l.fn.keeper l.keeper;
  gone : (S : State) (other : Option Change) → IsStateOf l.fn.keeper S other → Gone l.fn.keeper l.keeper S other l.number 0 (versions_below S l.number) l.recipes;
}

abbrev pub decreases-loop-number : goal.decreases-loop-number
decreases-loop-number g l = 256 - l.number

abbrev pub invariant-loop-keeper : goal.invariant-loop-keeper
invariant-loop-keeper g l = record {
  small : l.recipes ≤ l.number * 4294967296 + l.version;
  later : IsLaterOf l.fn.keeper l.keeper;
  gone : (S : State) (other : Option Change) → IsStateOf l.fn.keeper S other → InSet l.fn.keeper l.keeper S other l.number l.version l.recipes;
}

abbrev pub decreases-loop-keeper : goal.decreases-loop-keeper
decreases-loop-keeper g l = 4294967295 - l.version

use Rattle.vault_types.specs.Plans.{loads}
use Rattle.serial_restore.specs.Going.{Underway}
use Rattle.serial_restore.proofs.copying.copy_all.Given as goal

abbrev pub invariant-loop-id : goal.invariant-loop-id
invariant-loop-id g l = Underway l.fn.keeper l.keeper l.no (g.O.Sink.told l.fn.sink) (g.O.Sink.told l.sink) l.fn.copier l.copier

abbrev pub decreases-loop-id : goal.decreases-loop-id
decreases-loop-id g l = loads l.copier.steps

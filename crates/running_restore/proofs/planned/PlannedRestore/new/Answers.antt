use Rattle.std.proofs.Common.{refl}
use Rattle.restore_turns.proofs.Pinned.{pinning_follows}
use Rattle.running_restore.proofs.Refusals.{memory_refused, pin_refused, released_line, released_rest, released_follows, planned_of}
use Rattle.running_restore.proofs.planned.PlannedRestore.new.Goals as goal

pub returns-in_err-lines-clause-err : goal.returns-in_err-lines-clause-err
returns-in_err-lines-clause-err g c = memory_refused c.args.keeper.now c.keeps_some_core.ensures c.args.set c.args.version c.args.slots c.ranges.set.fits c.requires.kept c.from_residual.result c.from_residual.ensures.1

pub returns-in_err-room-clause-err : goal.returns-in_err-room-clause-err
returns-in_err-room-clause-err g c = memory_refused c.args.keeper.now c.keeps_some_core.ensures c.args.set c.args.version c.args.slots c.ranges.set.fits c.requires.kept c.from_residual-in_err-room.result c.from_residual-in_err-room.ensures.1

pub returns-in_err-no-clause-err : goal.returns-in_err-no-clause-err
returns-in_err-no-clause-err g c =
    pin_refused c.args.keeper.now c.keeps_some_core.ensures c.args.set c.args.version c.args.slots c.ranges.set.fits c.requires.kept c.pin.new.self c.in_err-no.field-0.0 c.in_err-no.ensures c.from_residual-in_err-no.result c.from_residual-in_err-no.ensures.1

pub returns-in_err-no-clause-follows : goal.returns-in_err-no-clause-follows
returns-in_err-no-clause-follows g c = pinning_follows c.args.set c.args.version c.args.keeper.now c.pin.new.self c.pin.result c.pin.ensures

pub invariant_of-result : goal.invariant_of-result
invariant_of-result g c = (
  planned_of c.args.keeper.now c.keeps_some_core.ensures c.args.set c.args.version c.args.slots c.ranges.set.fits c.requires.kept c.of-before.result.value c.of-behind.result.value c.pin.new.self c.of-before.ensures c.of-behind.ensures
      c.in_ok-no.field-0 c.in_ok-no.ensures c.in-Ok.ids.items c.in-Ok.copier c.whole_of-whole.result c.whole_of-whole.ensures c.in-Ok.ensures,
  c.in_ok-lines.ensures,
)

pub returns-in-Ok-clause-ok : goal.returns-in-Ok-clause-ok
returns-in-Ok-clause-ok g c = record {
  from = c.of-before.ensures;
  behind = c.of-behind.ensures;
  set = refl;
  version = refl;
  slots_are = refl;
  planned = planned_of c.args.keeper.now c.keeps_some_core.ensures c.args.set c.args.version c.args.slots c.ranges.set.fits c.requires.kept c.of-before.result.value c.of-behind.result.value c.pin.new.self c.of-before.ensures c.of-behind.ensures
      c.in_ok-no.field-0 c.in_ok-no.ensures c.in-Ok.ids.items c.in-Ok.copier c.whole_of-whole.result c.whole_of-whole.ensures c.in-Ok.ensures;
}

pub returns-in-Ok-clause-follows : goal.returns-in-Ok-clause-follows
returns-in-Ok-clause-follows g c = pinning_follows c.args.set c.args.version c.args.keeper.now c.pin.new.self c.pin.result c.pin.ensures

pub returns-in-Err-clause-err : goal.returns-in-Err-clause-err
returns-in-Err-clause-err g c =
    released_line c.args.keeper.now c.keeps_some_core.ensures c.args.set c.args.version c.args.slots c.ranges.set.fits c.requires.kept c.pin.new.self c.release.new.self c.in_ok-no.field-0 c.in_ok-no.ensures c.release.ensures

pub returns-in-Err-clause-rest : goal.returns-in-Err-clause-rest
returns-in-Err-clause-rest g c =
    released_rest c.args.keeper.now c.keeps_some_core.ensures c.args.set c.args.version c.args.slots c.ranges.set.fits c.requires.kept c.pin.new.self c.release.new.self c.in_ok-no.field-0 c.in_ok-no.ensures c.release.ensures

pub returns-in-Err-clause-follows : goal.returns-in-Err-clause-follows
returns-in-Err-clause-follows g c =
    released_follows c.args.keeper.now c.keeps_some_core.ensures c.args.set c.args.version c.args.slots c.ranges.set.fits c.requires.kept c.pin.new.self c.release.new.self c.in_ok-no.field-0 c.in_ok-no.ensures c.release.ensures

use Rattle.std.proofs.Common.{sym, ap, subst, ◌∙◌, refl, Some, Option}
use Rattle.vault_types.specs.Names.{IsFp}
use Rattle.vault_types.specs.State.{State}
use Rattle.vault_types.specs.Events.{Change}
use Rattle.keeper_core.specs.Keeping.{IsStateOf}
use Rattle.serial_migrate.specs.Going.{Stopped, IsMigrateFault}
use Rattle.vault_types.proofs.SumLemmas.{fp-is_fp}
use Rattle.serial_migrate.proofs.Ones.{kept_after, whole_here, summed_here, stopped_here, fault_here}
use Rattle.serial_migrate.proofs.one.sum_of.Goals as goal

pub returns-in-Ok-clause-sum : goal.returns-in-Ok-clause-sum
returns-in-Ok-clause-sum g c = subst IsFp (sym c.finish.ensures) (fp-is_fp c.restore_plain.new.sink.taken)

pub returns-in-Ok-clause-kept : goal.returns-in-Ok-clause-kept
returns-in-Ok-clause-kept g c = kept_after c.args.keeper.now c.restore_plain.new.keeper c.args.set c.args.version c.keeps_some_core.ensures c.requires.kept c.restore_plain.ensures.state

pub returns-in-Ok-clause-whole : goal.returns-in-Ok-clause-whole
returns-in-Ok-clause-whole g c some J j keeps at =
    c.finish.ensures
    ∙ whole_here c.args.keeper.now c.restore_plain.new.keeper (record { taken = Some c.new-sink.result.taken; faults = c.new-sink.result.faults }) (record { taken = Some c.restore_plain.new.sink.taken; faults = c.restore_plain.new.sink.faults })
    c.args.set c.args.version c.restore_plain.result
    (record {
      core = c.keeps_some_core.ensures;
      range = c.ranges.set.fits;
      kept = c.requires.kept;
      cause = c.restore_plain.ensures.cause;
      state = c.restore_plain.ensures.state;
      any_moment = c.restore_plain.ensures.any_moment;
      ok = c.restore_plain.ensures.ok;
      err = c.restore_plain.ensures.err;
    })
    c.in-Ok.field-0 c.in-Ok.is c.restore_plain.new.sink.taken (ap (λ s. Some s.taken) c.new-sink.ensures) refl some J j keeps at

pub returns-in-Ok-clause-ok : goal.returns-in-Ok-clause-ok
returns-in-Ok-clause-ok g c =
    summed_here c.args.keeper.now c.restore_plain.new.keeper (record { taken = Some c.new-sink.result.taken; faults = c.new-sink.result.faults }) (record { taken = Some c.restore_plain.new.sink.taken; faults = c.restore_plain.new.sink.faults })
    c.args.set c.args.version c.restore_plain.result
    (record {
      core = c.keeps_some_core.ensures;
      range = c.ranges.set.fits;
      kept = c.requires.kept;
      cause = c.restore_plain.ensures.cause;
      state = c.restore_plain.ensures.state;
      any_moment = c.restore_plain.ensures.any_moment;
      ok = c.restore_plain.ensures.ok;
      err = c.restore_plain.ensures.err;
    })
    c.in-Ok.field-0 c.in-Ok.is

pub returns-in-Err-clause-kept : goal.returns-in-Err-clause-kept
returns-in-Err-clause-kept g c = kept_after c.args.keeper.now c.restore_plain.new.keeper c.args.set c.args.version c.keeps_some_core.ensures c.requires.kept c.restore_plain.ensures.state

pub returns-in-Err-clause-err : goal.returns-in-Err-clause-err
returns-in-Err-clause-err g c =
    subst (λ f. (S : State) (other : Option Change) → IsStateOf c.args.keeper.now S other → Stopped c.args.keeper.now c.restore_plain.new.keeper S other c.args.set c.args.version f) (sym c.without_write.ensures)
    (stopped_here c.args.keeper.now c.restore_plain.new.keeper (record { taken = Some c.new-sink.result.taken; faults = c.new-sink.result.faults }) (record { taken = Some c.restore_plain.new.sink.taken; faults = c.restore_plain.new.sink.faults })
    c.args.set c.args.version c.restore_plain.result
    (record {
      core = c.keeps_some_core.ensures;
      range = c.ranges.set.fits;
      kept = c.requires.kept;
      cause = c.restore_plain.ensures.cause;
      state = c.restore_plain.ensures.state;
      any_moment = c.restore_plain.ensures.any_moment;
      ok = c.restore_plain.ensures.ok;
      err = c.restore_plain.ensures.err;
    })
    c.in-Err.fault c.in-Err.is)

pub returns-in-Err-clause-cause : goal.returns-in-Err-clause-cause
returns-in-Err-clause-cause g c =
    subst (λ f. IsMigrateFault c.args.keeper.now c.restore_plain.new.keeper f) (sym c.without_write.ensures)
    (fault_here c.args.keeper.now c.restore_plain.new.keeper (record { taken = Some c.new-sink.result.taken; faults = c.new-sink.result.faults }) (record { taken = Some c.restore_plain.new.sink.taken; faults = c.restore_plain.new.sink.faults })
    c.args.set c.args.version c.restore_plain.result
    (record {
      core = c.keeps_some_core.ensures;
      range = c.ranges.set.fits;
      kept = c.requires.kept;
      cause = c.restore_plain.ensures.cause;
      state = c.restore_plain.ensures.state;
      any_moment = c.restore_plain.ensures.any_moment;
      ok = c.restore_plain.ensures.ok;
      err = c.restore_plain.ensures.err;
    })
    c.in-Err.fault c.in-Err.is)

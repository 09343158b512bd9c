use Rattle.std.proofs.Common.{sym, subst}
use Rattle.running_restore.specs.Views.{RunningView, Starts}
use Rattle.piped_restore.proofs.Alone.{starts_alone}
use Rattle.piped_restore.proofs.Ended.{ended_line, ended_rest}
use Rattle.piped_restore.proofs.restoring.run_kept.Goals as goal

pub run_to_reply-reply-requires-clause-alone : goal.run_to_reply-reply-requires-clause-alone
run_to_reply-reply-requires-clause-alone g c =
    let told = g.O.Sink.told c.args.sink in
    starts_alone c.args.keeper.now c.new.new.keeper c.args.set c.args.version c.args.slots c.in-Ok.planned told c.run-running.result c.in-Ok.ensures.ok
    (subst (λ (r : RunningView). Starts c.in-Ok.planned told r) (sym c.run-running.ensures) c.ready-restore.ensures.starts)

pub returns-in-Ok-clause-line : goal.returns-in-Ok-clause-line
returns-in-Ok-clause-line g c =
    let told = g.O.Sink.told c.args.sink in
    let e = c.run_to_reply-reply.ensures in
    ended_line c.args.keeper.now c.new.new.keeper c.run_to_reply-reply.new.keeper c.end.new.keeper c.args.set c.args.version c.args.slots c.in-Ok.planned told (g.O.Sink.told c.end.result.1) c.run-running.result c.run_to_reply-reply.new.running c.run_to_reply-reply.result c.in-Ok.ensures.ok
    (subst (λ (r : RunningView). Starts c.in-Ok.planned told r) (sym c.run-running.ensures) c.ready-restore.ensures.starts)
    e.same e.alone c.end.ensures.released c.end.ensures.replied c.end.result.0 c.end.ensures.result c.keeps_some_core.ensures c.ranges.set.fits c.requires.kept

pub returns-in-Ok-clause-rest : goal.returns-in-Ok-clause-rest
returns-in-Ok-clause-rest g c =
    let told = g.O.Sink.told c.args.sink in
    let e = c.run_to_reply-reply.ensures in
    ended_rest c.args.keeper.now c.new.new.keeper c.run_to_reply-reply.new.keeper c.end.new.keeper c.args.set c.args.version c.args.slots c.in-Ok.planned told (g.O.Sink.told c.end.result.1) c.run-running.result c.run_to_reply-reply.new.running c.run_to_reply-reply.result c.in-Ok.ensures.ok
    (subst (λ (r : RunningView). Starts c.in-Ok.planned told r) (sym c.run-running.ensures) c.ready-restore.ensures.starts)
    e.same e.alone c.end.ensures.released c.end.ensures.replied c.end.result.0 c.end.ensures.result

pub returns-in-Err-clause-line : goal.returns-in-Err-clause-line
returns-in-Err-clause-line g c pins = c.in-Err.ensures.err pins (g.O.Sink.told c.args.sink)

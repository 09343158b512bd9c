use Rattle.std.proofs.Common.{sym, ◌∙◌, arith}
use Rattle.vault_types.specs.declared.Fault.TheVariants as fault
use Rattle.backup_jobs.specs.Going.{Began, began_with}
use Rattle.backup_jobs.proofs.Closes.{in_job_of, stopped_backs_up}
use Rattle.pipe_backup.proofs.Starts.{no_room, starts}
use Rattle.pipe_backup.proofs.piping.start_piped.Goals as goal

pub abort-requires-clause-lent : goal.abort-requires-clause-lent
abort-requires-clause-lent g c = let opened = c.in-Ok.ensures.ok (g.I.Source.told c.args.source) in sym opened.underway.lent

pub abort-requires-clause-in_job : goal.abort-requires-clause-in_job
abort-requires-clause-in_job g c =
    let from = g.I.Source.told c.args.source in
    let opened = c.in-Ok.ensures.ok from in
    let b : Began = began_with c.args.set c.args.config.now c.args.limits.now c.args.keeper.now from c.in-Ok.opened in
    in_job_of b _ _ opened.underway

pub returns-in-Err-rooms-clause-err : goal.returns-in-Err-rooms-clause-err
returns-in-Err-rooms-clause-err g c =
    let from = g.I.Source.told c.args.source in
    let opened = c.in-Ok.ensures.ok from in
    let b : Began = began_with c.args.set c.args.config.now c.args.limits.now c.args.keeper.now from c.in-Ok.opened in
    stopped_backs_up b _ _ from fault.Memory (no_room _ _ _ _ _ from _ opened) c.abort.ensures.aborts c.abort.ensures.shelf c.abort.ensures.same.0 c.abort.ensures.same.1 c.abort.ensures.pins

pub new-filler-requires-clause-low : goal.new-filler-requires-clause-low
new-filler-requires-clause-low g c = (c.in-Ok.ensures.ok (g.I.Source.told c.args.source)).underway.low

pub new-filler-requires-clause-high : goal.new-filler-requires-clause-high
new-filler-requires-clause-high g c = omega (arith, (c.in-Ok.ensures.ok (g.I.Source.told c.args.source)).underway.fits)

pub returns-clause-ok : goal.returns-clause-ok
returns-clause-ok g c =
    let opened = c.in-Ok.ensures.ok (g.I.Source.told c.args.source) in
    starts _ _ _ _ _ (λ s. g.I.Source.told s) c.in-Ok.opened c.args.source _ c.start_on-stages.result c.start-lane.result c.new-filler.result _ opened c.requires.config.cutting c.in-Ok-rooms.ensures.job c.start_on-stages.ensures
    (c.start-lane.ensures ∙ c.in-Ok-rooms.ensures.lane) c.new-filler.ensures.filled c.new-filler.ensures.capacity c.new-lens.ensures.items

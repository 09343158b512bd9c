use Rattle.pipe_backup.proofs.Backs.{back_for, over_put, over_failed, never_over}
use Rattle.pipe_backup.proofs.ending.run_out.Goals as goal

pub unreachable-requires : goal.unreachable-requires
unreachable-requires g c =
    let b = c.requires.0 in
    let h = c.requires.1 in
    let left = c.settle-stages.result in
    let to = g.I.Source.told c.end-source.result.0 in
    let back = back_for b (λ s. g.I.Source.told s) c.args.piping.stages left.stages to c.end-source.result.2 c.end-source.result.3 h.backup.stages c.settle-stages.ensures.same c.end-source.ensures.back in
    absurd (never_over b c.settle-stages.new.keeper left.lens.items c.args.piping.stages left.stages left.lane to c.end-source.result.2 c.end-source.result.3 left.filled c.in-Err.halt h.backup.cuttable back h.backup.stages.stopped (c.settle-stages.ensures.filled b h) c.in-Err.is c.in-Never.is c.end-in-Never.ensures)

pub returns-in-Ok-clause-over : goal.returns-in-Ok-clause-over
returns-in-Ok-clause-over g c b h =
    let left = c.settle-stages.result in
    let to = g.I.Source.told c.end-source.result.0 in
    let back = back_for b (λ s. g.I.Source.told s) c.args.piping.stages left.stages to c.end-source.result.2 c.end-source.result.3 h.backup.stages c.settle-stages.ensures.same c.end-source.ensures.back in
    (over_put b c.settle-stages.new.keeper left.lens.items c.args.piping.stages left.stages left.lane to c.end-source.result.2 c.end-source.result.3 left.filled c.in-Ok.rest h.backup.cuttable back (c.settle-stages.ensures.filled b h) c.in-Ok.is c.end.ensures, tt)

pub returns-in-Failed-clause-over : goal.returns-in-Failed-clause-over
returns-in-Failed-clause-over g c b h =
    let left = c.settle-stages.result in
    let to = g.I.Source.told c.end-source.result.0 in
    let back = back_for b (λ s. g.I.Source.told s) c.args.piping.stages left.stages to c.end-source.result.2 c.end-source.result.3 h.backup.stages c.settle-stages.ensures.same c.end-source.ensures.back in
    (tt, over_failed b c.settle-stages.new.keeper left.lens.items c.args.piping.stages left.stages left.lane to c.end-source.result.2 c.end-source.result.3 left.filled c.in-Err.halt c.in-Failed.fault h.backup.cuttable back (c.settle-stages.ensures.filled b h) c.in-Err.is c.in-Failed.is)

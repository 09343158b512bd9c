use Rattle.std.proofs.Common.{◌∙◌}
use Rattle.pipe_backup.proofs.Settles.{come_as}
use Rattle.pipe_backup.proofs.ending.end_piped.Goals as goal

pub close_job-answer-requires : goal.close_job-answer-requires
close_job-answer-requires g c =
    let b = c.requires.0 in
    let h = c.requires.1 in
    let v = come_as b (λ s. g.I.Source.told s) c.args.keeper.now _ _ c.args.ended c.piping.view_is h in
    (b, g.I.Source.told c.run_out-source.result.0, v.backup.job, c.run_out-source.ensures.index ∙ h.backup.stages.index, rw (c.as_slice.ensures.value) (c.run_out-source.ensures.over b h))

pub returns : goal.returns
returns g c b h =
    let v = come_as b (λ s. g.I.Source.told s) c.args.keeper.now _ _ c.args.ended c.piping.view_is h in
    c.close_job-answer.ensures b (g.I.Source.told c.run_out-source.result.0) v.backup.job (c.run_out-source.ensures.index ∙ h.backup.stages.index) (rw (c.as_slice.ensures.value) (c.run_out-source.ensures.over b h))

use Rattle.pipe_backup_tests.proofs.backups.make_steps.Goals as goal

pub step_piped-requires : goal.step_piped-requires
step_piped-requires g c = (c.loop.invariant.0, c.loop.invariant.1)

pub loop-preserved : goal.loop-preserved
loop-preserved g c = (c.loop.invariant.0, c.in-Ok.ensures.ok c.loop.invariant.0 c.loop.invariant.1)

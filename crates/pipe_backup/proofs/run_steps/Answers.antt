use Rattle.pipe_backup.proofs.run_steps.Goals as goal

pub step_piped-requires : goal.step_piped-requires
step_piped-requires g c = (c.requires.0, c.loop.invariant.piping c.requires.0 c.requires.1)

pub returns-in-Err : goal.returns-in-Err
returns-in-Err g c b h = c.in-Err.ensures.err b (c.loop.invariant.piping b h)

pub loop-preserved-in-Ok-Moved : goal.loop-preserved-in-Ok-Moved
loop-preserved-in-Ok-Moved g c = record { piping = λ b h. c.in-Ok-Moved.ensures.ok b (c.loop.invariant.piping b h) }

pub loop-preserved : goal.loop-preserved
loop-preserved g c = record { piping = λ b h. c.in-Ok.ensures.ok b (c.loop.invariant.piping b h) }

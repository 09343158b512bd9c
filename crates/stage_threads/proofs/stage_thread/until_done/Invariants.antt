use Rattle.stage_threads.proofs.stage_thread.until_done.Given as goal

abbrev pub invariant-loop : goal.invariant-loop
invariant-loop g l = g.S.Stage.same l.fn.stage l.stage

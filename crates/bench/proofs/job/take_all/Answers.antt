use Rattle.std.proofs.Common.{[], ◌∷◌, ◌++◌, ap, ◌∙◌}
use Rattle.stage_flows.proofs.Running.{run-part}
use Rattle.bench.proofs.job.take_all.Goals as goal

pub loop-preserved : goal.loop-preserved
loop-preserved g c = let i = c.loop.invariant in
    (i.0 ++ c.in-Ok.part ∷ [], ap (λ j. j.taken) c.next-in-loop.ensures ∙ (λ k. i.1 k ++ c.in-Ok.ensures k ∷ []) ∙ run-part i.0 c.in-Ok.part)

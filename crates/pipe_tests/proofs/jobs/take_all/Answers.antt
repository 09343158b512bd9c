use Rattle.std.proofs.Common.{[], ◌∷◌, ◌++◌, ap, ◌∙◌}
use Rattle.stage_flows.proofs.Running.{run-part}
use Rattle.pipe_tests.proofs.jobs.take_all.Goals as goal

pub loop-preserved : goal.loop-preserved
loop-preserved g c = let i = c.loop.invariant in
    (i.0 ++ c.in-Ok.part ∷ [], ap (λ j. j.taken) c.next-in-loop.ensures ∙ (λ k. i.1 k ++ c.in-Ok.ensures k ∷ []) ∙ run-part i.0 c.in-Ok.part)

pub loop-preserved-then-len-stop_at : goal.loop-preserved-then-len-stop_at
loop-preserved-then-len-stop_at g c = let i = c.loop.invariant in
    (i.0 ++ c.in-Ok.part ∷ [], ap (λ j. j.taken) c.stop.ensures ∙ ap (λ j. j.taken) c.next-in-loop.ensures ∙ (λ k. i.1 k ++ c.in-Ok.ensures k ∷ []) ∙ run-part i.0 c.in-Ok.part)

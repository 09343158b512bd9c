use Rattle.rewrite_stage.proofs.Steps.{SoFar}
use Rattle.rewrite_stage.proofs.decider.Decider.decide.Given as goal

abbrev pub invariant-loop-chunk : goal.invariant-loop-chunk
invariant-loop-chunk l = SoFar l.initial.self l.self l.allowed l.yielded l.decided.items

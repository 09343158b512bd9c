use Rattle.std.proofs.Common.{◌≡◌, map, take}
use Rattle.rewrite_stage.specs.Steps.{only_kept}
use Rattle.rewrite_stage.proofs.decider.capped.Given as goal

abbrev pub invariant-loop-old : goal.invariant-loop-old
invariant-loop-old l = l.allowed.items ≡ map (only_kept l.kept.items) (take l.old-index l.counted)

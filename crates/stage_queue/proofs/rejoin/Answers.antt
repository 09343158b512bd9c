use Rattle.std.proofs.Common.{ap}
use Rattle.stage_queue.proofs.Lines.{takes, whole}
use Rattle.stage_queue.proofs.rejoin.Goals as goal

pub pop_as-requires-clause-rule : goal.pop_as-requires-clause-rule
pop_as-requires-clause-rule g c = (takes _ _ (ap (λ v. v.takes) c.loop.invariant.1), whole _ _)

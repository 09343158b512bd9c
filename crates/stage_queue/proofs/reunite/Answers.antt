use Rattle.std.proofs.Common.{ap}
use Rattle.stage_queue.proofs.Lines.{merges}
use Rattle.stage_queue.proofs.reunite.Goals as goal

pub absorb-requires-clause-rule : goal.absorb-requires-clause-rule
absorb-requires-clause-rule g c = merges _ _ _ _ (ap (λ v. v.sends) c.tx.invariant.1) (ap (λ v. v.takes) c.rx.invariant.1)

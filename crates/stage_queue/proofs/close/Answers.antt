use Rattle.stage_queue.proofs.Lines.{whole}
use Rattle.stage_queue.proofs.close.Goals as goal

pub learn_as-requires-clause-rule : goal.learn_as-requires-clause-rule
learn_as-requires-clause-rule g c = whole _ _

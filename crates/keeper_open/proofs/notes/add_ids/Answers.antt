use Rattle.keeper_open.proofs.Noting.{ids_more}
use Rattle.keeper_open.proofs.notes.add_ids.Goals as goal

pub loop-id-preserved : goal.loop-id-preserved
loop-id-preserved c = λ before is. ids_more c.loop-id.all.keys c.insert.new.self.keys before c.args.ids.now c.loop-id.id-index 0 c.loop-id-test.true c.in_ok-insert.ensures.keys (c.loop-id.invariant before is)

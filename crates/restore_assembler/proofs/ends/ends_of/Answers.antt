use Rattle.std.proofs.Common.{arith}
use Rattle.restore_assembler.proofs.Covered.{ends_more}
use Rattle.restore_assembler.proofs.ends.ends_of.Goals as goal

pub loop-spot-preserved : goal.loop-spot-preserved
loop-spot-preserved c =
    ends_more c.loop-spot.ends c.insert.new.self c.args.spots.now c.loop-spot.spot-index _ c.max.result c.loop-spot-test.true c.loop-spot.invariant c.in_ok-insert.ensures.updates
    (omega (arith, c.max.ensures, c.end_at-last.ensures))

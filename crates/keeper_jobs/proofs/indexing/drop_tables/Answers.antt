use Rattle.std.proofs.Common.{◌+◌, ◌-◌, arith}
use Rattle.keeper_jobs.proofs.Tables.{one_less}
use Rattle.keeper_jobs.proofs.indexing.drop_tables.Goals as goal

pub loop-id-preserved : goal.loop-id-preserved
loop-id-preserved c known below is =
    c.drop_at.ensures known c.args.first (c.args.next - (c.loop-id.id + 1)) below (omega (arith, c.loop-id.auto.id))
    (one_less c.loop-id.index c.args.tables.now.entries known c.loop-id.id c.args.next c.loop-id-test.true (c.loop-id.invariant known below is))

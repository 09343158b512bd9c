use Rattle.std.proofs.Common.{◌-◌, ◌++◌, arith}
use Rattle.keeper_jobs.specs.Jobs.{tables_from}
use Rattle.keeper_jobs.proofs.Tables.{one_more}
use Rattle.keeper_jobs.proofs.indexing.add_tables.Goals as goal

pub loop-id-preserved : goal.loop-id-preserved
loop-id-preserved c known is =
    one_more c.add_at.new.index c.args.tables.now.entries known c.args.first c.loop-id.id (omega (arith, c.loop-id.auto.id))
    (c.in-Ok.ensures.added (known ++ tables_from c.args.tables.now.entries c.args.first (c.loop-id.id - c.args.first)) (c.loop-id.invariant known is))

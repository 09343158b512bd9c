use Rattle.std.proofs.Common.{take, sym, subst}
use Rattle.std.proofs.lemmas.List.{take_more}
use Rattle.har_monitor.specs.Monitor.{HasSeen}
use Rattle.backup_jobs.proofs.sparse.monitor_of.Goals as goal

pub loop-row-preserved : goal.loop-row-preserved
loop-row-preserved c =
    subst (HasSeen c.see.new.self) (sym (take_more c.args.rows.now c.loop-row.row-index _ c.loop-row-test.true))
    (c.in_ok-see.ensures (take c.loop-row.row-index c.args.rows.now) c.loop-row.invariant)

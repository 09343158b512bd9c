use Rattle.std.proofs.Common.{take}
use Rattle.har_monitor.specs.Monitor.{HasSeen}
use Rattle.backup_jobs.proofs.sparse.monitor_of.Given as goal

abbrev pub invariant-loop-row : goal.invariant-loop-row
invariant-loop-row l = HasSeen l.monitor (take l.row-index l.rows)

use Rattle.std.proofs.Common.{◌≡◌}
use Rattle.pipe_run.proofs.ending.next_item.Given as goal

abbrev pub invariant-loop : goal.invariant-loop
invariant-loop g l = record {
  same : l.job ≡ l.fn.job;
}

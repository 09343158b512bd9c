use Rattle.std.proofs.Common.{◌≡◌, ◌++◌, List, None}
use Rattle.rewrite_stage.specs.declared.Decided.{Decided}
use Rattle.stage_flows.specs.Runs.{run}
use Rattle.pipe_backup.specs.Ending.{as_begun}
use Rattle.pipe_backup.proofs.ending.drain.Given as goal

abbrev pub invariant-loop : goal.invariant-loop
invariant-loop g l = record {
  taken : (more : List Decided) × (l.job.taken ≡ l.fn.job.taken ++ run more None);
  same : as_begun l.job ≡ as_begun l.fn.job;
}

use Rattle.std.proofs.Common.{◌≡◌, List, None}
use Rattle.rewrite_stage.specs.declared.Decided.{Decided}
use Rattle.stage_flows.specs.Runs.{run}
use Rattle.bench.proofs.job.take_all.Given as goal

abbrev pub invariant-loop : goal.invariant-loop
invariant-loop g l = (parts : List Decided) × (l.job.taken ≡ run parts None)

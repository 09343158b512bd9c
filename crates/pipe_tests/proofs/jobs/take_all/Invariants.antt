use Rattle.std.proofs.Common.{◌≡◌, List, None}
use Rattle.rewrite_stage.specs.declared.Decided.{Decided}
use Rattle.stage_flows.specs.Runs.{run}
use Rattle.pipe_tests.proofs.jobs.take_all.Given as goal

abbrev pub invariant-loop : goal.invariant-loop
invariant-loop g l = (parts : List Decided) × (l.job.taken ≡ run parts None)

use Rattle.std.proofs.Common.{List, Some}
use Rattle.vault_types.specs.Tables.{Container}
use Rattle.stage_flows.specs.declared.Last.TheVariants as last
use Rattle.stage_flows.specs.Runs.{run}
use Rattle.backup_jobs.specs.Going.{Began, AreOfJob}
use Rattle.pipe_backup.specs.Sealing.{IsSpanOf, HasHanded}
use Rattle.pipe_backup.proofs.sealing.collect.Given as goal

abbrev pub invariant-loop : goal.invariant-loop
invariant-loop g l = record {
  handed : (b : Began) (gone : List Container) → HasHanded b l.fn.keeper l.fn.lens.items l.fn.lane (run gone (Some last.End)) → AreOfJob b gone → IsSpanOf b l.fn.span
      → HasHanded b l.keeper l.lens.items l.lane (run gone (Some last.End));
}

use Rattle.std.proofs.Common.{◌≡◌, List, None}
use Rattle.vault_types.specs.Tables.{Container}
use Rattle.stage_flows.specs.Runs.{run}
use Rattle.backup_jobs.specs.Going.{Began, AreOfJob}
use Rattle.pipe_backup.specs.Sealing.{IsSpanOf, HasHanded}
use Rattle.pipe_backup.proofs.sealing.hand.Given as goal

abbrev pub invariant-loop : goal.invariant-loop
invariant-loop g l = record {
  item : l.item ≡ l.fn.item;
  handed : (b : Began) (gone : List Container) → HasHanded b l.fn.keeper l.fn.lens.items l.fn.lane (run gone None) → AreOfJob b gone → IsSpanOf b l.fn.span
      → HasHanded b l.keeper l.lens.items l.lane (run gone None);
}

use Rattle.std.proofs.Common.{◌≡◌, ◌≤◌, ◌+◌, length}
use Rattle.vault_types.specs.Blobs.{runs_of}
use Rattle.recipe_form2.proofs.writing.run_count.Given as goal

abbrev pub invariant-runs : goal.invariant-runs
invariant-runs l = record {
  told : l.count + length (runs_of l.rest) ≡ length (runs_of l.rows);
  few : l.count + length l.rest ≤ length l.rows;
}

abbrev pub decreases-runs : goal.decreases-runs
decreases-runs l = length l.rest

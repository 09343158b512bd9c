use Rattle.std.proofs.Common.{◌≡◌, ◌≤◌, ◌++◌, length}
use Rattle.std.specs.Prelude.{flat_map}
use Rattle.vault_types.specs.Blobs.{run_bytes, runs_of}
use Rattle.recipe_form2.proofs.writing.push_runs.Given as goal

abbrev pub invariant-runs : goal.invariant-runs
invariant-runs l = record {
  told : l.blob.items ++ flat_map run_bytes (runs_of l.rest) ≡ l.fn.blob.items ++ flat_map run_bytes (runs_of l.rows);
  few : length l.rest ≤ length l.rows;
}

abbrev pub decreases-runs : goal.decreases-runs
decreases-runs l = length l.rest

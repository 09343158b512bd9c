use Rattle.std.proofs.Common.{◌≡◌, ◌-◌}
use Rattle.blob_parts.proofs.Loop.{with_front}
use Rattle.recipe_form2.specs.Reading.{runs_at}
use Rattle.recipe_form2.proofs.reading.runs_at.Given as goal

abbrev pub invariant-runs : goal.invariant-runs
invariant-runs l = with_front l.rows.items (runs_at l.before (l.count - l.counter) l.rest) ≡ runs_at 0 l.count l.bytes

use Rattle.std.proofs.Common.{◌≡◌, ◌+◌, drop}
use Rattle.recipe_form2.specs.Runs.{front_len}
use Rattle.recipe_form2.proofs.writing.front_len.Given as goal

abbrev pub invariant-loop-i : goal.invariant-loop-i
invariant-loop-i l = front_len l.id l.rows ≡ l.i + front_len l.id (drop l.i l.rows)

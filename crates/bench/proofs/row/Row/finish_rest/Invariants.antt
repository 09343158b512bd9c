use Rattle.std.proofs.Common.{◌≡◌}
use Rattle.bench.proofs.row.Row.finish_rest.Given as goal

abbrev pub invariant-loop : goal.invariant-loop
invariant-loop g l = l.self ≡ l.initial.self

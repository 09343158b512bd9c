use Rattle.std.proofs.Common.{◌≡◌, ◌≤◌, ◌+◌, ◌-◌}
use Rattle.std.specs.Prelude.{count_by, ◌%◌, ◌==◌}
use Rattle.std.specs.List.{range_with_len}
use Rattle.workload.proofs.numbers.generation.Given as goal

abbrev pub invariant-loop-earlier : goal.invariant-loop-earlier
invariant-loop-earlier l = (l.count + 2 ≤ l.earlier) × (l.count ≡ count_by (λ u. l.block % 16 == u % 16) (range_with_len 2 (l.earlier - 2)))

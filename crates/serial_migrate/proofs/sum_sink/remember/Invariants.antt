use Rattle.std.proofs.Common.{◌≡◌, ◌≤◌, ◌-◌, ◌++◌, length, map, take}
use Rattle.serial_migrate.proofs.sum_sink.remember.Given as goal

abbrev pub invariant-loop-count : goal.invariant-loop-count
invariant-loop-count l = record {
  low : l.count ≤ length l.piece;
  added : map (λ b. b.value) l.seen.items ≡ map (λ b. b.value) l.fn.seen.items ++ take l.count l.piece;
}

abbrev pub decreases-loop-count : goal.decreases-loop-count
decreases-loop-count l = length l.piece - l.count

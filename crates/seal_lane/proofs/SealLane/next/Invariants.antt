use Rattle.std.proofs.Common.{◌≡◌}
use Rattle.seal_lane.proofs.SealLane.next.Given as goal

abbrev pub invariant-loop : goal.invariant-loop
invariant-loop g l = l.self ≡ l.fn.self

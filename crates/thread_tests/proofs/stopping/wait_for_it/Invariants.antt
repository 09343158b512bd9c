use Rattle.std.proofs.Common.{◌≡◌}
use Rattle.thread_tests.proofs.stopping.wait_for_it.Given as goal

abbrev pub invariant-loop : goal.invariant-loop
invariant-loop g l = l.holder.family ≡ l.initial.holder.family

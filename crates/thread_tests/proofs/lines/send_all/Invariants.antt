use Rattle.std.proofs.Common.{◌≡◌}
use Rattle.thread_tests.proofs.lines.send_all.Given as goal

abbrev pub invariant-loop : goal.invariant-loop
invariant-loop g l = l.tx.line ≡ l.fn.tx.line

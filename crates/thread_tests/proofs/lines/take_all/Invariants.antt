use Rattle.std.proofs.Common.{◌≡◌}
use Rattle.thread_tests.proofs.lines.take_all.Given as goal

abbrev pub invariant-loop : goal.invariant-loop
invariant-loop g l = l.rx.line ≡ l.initial.rx.line

use Rattle.std.proofs.Common.{◌≡◌, drop}
use Rattle.store_model.specs.World.{first_fault}
use Rattle.report_printer.proofs.status.first_fault.Given as goal

abbrev pub invariant-loop-answer : goal.invariant-loop-answer
invariant-loop-answer l = first_fault l.answers ≡ first_fault (drop l.answer-index l.answers)

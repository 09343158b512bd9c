use Rattle.std.proofs.Common.{arith}
use Rattle.vault_types.specs.declared.Answer.TheVariants.{Stored}
use Rattle.vault_traits.proofs.Written.{takes_nothing}
use Rattle.report_printer.proofs.Written.{printed_front}
use Rattle.report_printer.proofs.printing.print_all.Goals as goal

pub loop-answer-init : goal.loop-answer-init
loop-answer-init g c = record { within = omega arith; taken = takes_nothing _; later = omega arith }

pub returns-in-Some-clause-printed : goal.returns-in-Some-clause-printed
returns-in-Some-clause-printed g c =
    printed_front c.args.answers.now c.loop-answer.answer-index (Stored 0 0 0 0 0 0 0) c.in-Some.fault (g.O.Sink.told c.args.out.now) (g.O.Sink.told c.loop-answer.out) (g.O.Sink.told c.print.new.out) c.loop-answer-test.true
    c.loop-answer.invariant.taken c.loop-answer.invariant.later c.in-Some.ensures.printed

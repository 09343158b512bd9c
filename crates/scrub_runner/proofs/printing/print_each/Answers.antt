use Rattle.std.proofs.Common.{arith}
use Rattle.vault_traits.proofs.Written.{takes_nothing}
use Rattle.scrub_runner.proofs.Lines.{printed_front}
use Rattle.payload_health.specs.declared.Bad.{Bad}
use Rattle.payload_health.specs.declared.Health.TheVariants.{Good}
use Rattle.scrub_runner.proofs.printing.print_each.Goals as goal

pub loop-bad-init : goal.loop-bad-init
loop-bad-init g c = record { within = omega arith; taken = takes_nothing _; later = omega arith }

pub returns-in-Some-clause-printed : goal.returns-in-Some-clause-printed
returns-in-Some-clause-printed g c =
    let none : Bad = record { id = 0; health = Good } in
    printed_front c.args.damaged.now c.loop-bad.bad-index none c.in-Some.fault (g.O.Sink.told c.args.out.now) (g.O.Sink.told c.loop-bad.out) (g.O.Sink.told c.print_bad.new.out) c.loop-bad-test.true
    c.loop-bad.invariant.taken c.loop-bad.invariant.later c.in-Some.ensures.printed

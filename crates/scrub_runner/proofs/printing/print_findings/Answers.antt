use Rattle.std.proofs.Common.{List, None, Some, subst}
use Rattle.payload_health.specs.declared.Bad.{Bad}
use Rattle.store_model.specs.World.{IsPrinted, report_text}
use Rattle.command_runner.proofs.Fills.{printed_first, printed_then}
use Rattle.scrub_model.specs.Words.{damage_lines}
use Rattle.scrub_runner.proofs.printing.print_findings.Goals as goal

pub returns-in-Some : goal.returns-in-Some
returns-in-Some g c =
    let out = g.O.Sink.told c.args.out.now in
    let now = g.O.Sink.told c.print_each.new.out in
    let bad = c.args.found.now.damaged in
    printed_first (damage_lines bad) (report_text c.args.answers.now) out now c.in-Some.fault (subst (λ (l : List Bad). IsPrinted (damage_lines l) out now (Some c.in-Some.fault)) c.as_slice.ensures c.in-Some.ensures.printed)

pub returns-in-None : goal.returns-in-None
returns-in-None g c =
    let out = g.O.Sink.told c.args.out.now in
    let mid = g.O.Sink.told c.print_each.new.out in
    let bad = c.args.found.now.damaged in
    printed_then (damage_lines bad) (report_text c.args.answers.now) out mid (g.O.Sink.told c.print_all.new.out) c.print_all.result
    (subst (λ (l : List Bad). IsPrinted (damage_lines l) out mid None) c.as_slice.ensures c.in-None.ensures.printed) c.print_each.ensures.later c.print_all.ensures.printed

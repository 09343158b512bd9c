use Rattle.store_model.specs.Filling.{outputs_text}
use Rattle.store_model.specs.World.{report_text}
use Rattle.workload.specs.Places.{file_at}
use Rattle.command_runner.proofs.Fills.{printed_first, printed_then}
use Rattle.command_runner.proofs.outputs.print_filled.Goals as goal

pub returns-in-Some : goal.returns-in-Some
returns-in-Some g c =
    let p = c.args.places.now in
    printed_first (report_text c.args.answers.now) (outputs_text (file_at p.seed p.places) c.args.lines.now c.args.answers.now) (g.O.Sink.told c.args.out.now) (g.O.Sink.told c.print_all.new.out) c.in-Some.fault c.in-Some.ensures.printed

pub returns-in-None : goal.returns-in-None
returns-in-None g c =
    let p = c.args.places.now in
    printed_then (report_text c.args.answers.now) (outputs_text (file_at p.seed p.places) c.args.lines.now c.args.answers.now) (g.O.Sink.told c.args.out.now) (g.O.Sink.told c.print_all.new.out) (g.O.Sink.told c.print_outputs.new.out) c.print_outputs.result
    c.in-None.ensures.printed c.print_all.ensures.later c.print_outputs.ensures

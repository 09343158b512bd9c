use Rattle.std.specs.Prelude.{true, List}
use Rattle.std.proofs.Common.{subst}
use Rattle.vault_types.specs.declared.Line.{Line}
use Rattle.store_model.specs.Run.{RanLines, with_input}
use Rattle.store_model.specs.World.{World, world}
use Rattle.command_runner.specs.Going.{GoesOn}
use Rattle.command_runner.proofs.Runs.{read_batch}
use Rattle.command_runner.proofs.run.run_batch.Goals as goal

pub returns-in-Ok : goal.returns-in-Ok
returns-in-Ok g c =
    let r = c.ended_lines.result in
    let before : World = world (g.S.Shelf.told c.args.shelf) (g.P.Places.told c.args.places.now) (g.I.Source.told c.args.input) (g.O.Sink.told c.args.out) (g.R.Sink.told c.args.report.now) in
    let now : World = world (g.S.Shelf.told r.shelf) (g.P.Places.told c.run_over-ran.new.places) (g.I.Source.told r.input) (g.O.Sink.told r.out) (g.R.Sink.told c.ended_lines.new.report) in
    let input = g.I.Source.told c.read_lines.new.input in
    let goes = c.ended_lines.ensures true before.shelf c.args.limits.now c.as_slice.result.now before.places now.places c.run_over-ran.ensures.ok c.run_over-ran.ensures.err in
    read_batch true c.args.limits.now before now input r.answers.items r.fault r.status c.in-Ok.lines.items c.in-Ok.ensures.script c.in-Ok.ensures.read c.in-Ok.ensures.bound
    (subst (λ (lines : List Line). GoesOn (RanLines true lines c.args.limits.now) (with_input before input) now r.answers.items r.fault r.status) c.as_slice.ensures.value goes)

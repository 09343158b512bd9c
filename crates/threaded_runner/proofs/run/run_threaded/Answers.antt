use Rattle.std.proofs.Common.{map}
use Rattle.std.specs.Prelude.{false, string_bytes}
use Rattle.store_model.specs.World.{World, world}
use Rattle.command_runner.proofs.Completes.{completes}
use Rattle.threaded_runner.proofs.run.run_threaded.Goals as goal

pub returns-clause-complete : goal.returns-clause-complete
returns-clause-complete g c =
    let before : World = world (g.S.Shelf.told c.args.shelf) (g.P.Places.told c.args.places.now) (g.I.Source.told c.args.input) (g.O.Sink.told c.args.out) (g.R.Sink.told c.args.report.now) in
    let r = c.run_words.result in
    let now : World = world (g.S.Shelf.told r.shelf) (g.P.Places.told c.run_words.new.places) (g.I.Source.told r.input) (g.O.Sink.told r.out) (g.R.Sink.told c.run_words.new.report) in
    completes false (map string_bytes c.args.words.now) c.args.limits.now before now r.answers.items r.fault r.status c.run_words.ensures

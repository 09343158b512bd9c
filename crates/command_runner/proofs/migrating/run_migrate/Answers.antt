use Rattle.std.proofs.Common.{refl, ap}
use Rattle.store_model.specs.World.{World, world}
use Rattle.store_model.specs.Migrating.{RunsMigrate}
use Rattle.store_model.specs.Steps.{answer_of}
use Rattle.run_laws.proofs.MigrateRuns.{migrate_run}
use Rattle.command_runner.proofs.Openings.{one_answer, printed_one}
use Rattle.command_runner.proofs.migrating.run_migrate.Goals as goal

pub returns : goal.returns
returns g c p =
    let s = g.S.Shelf.told in
    let i = g.I.Source.told in
    let o = g.O.Sink.told in
    let r = g.R.Sink.told in
    let e = c.ended_on_out.ensures in
    let done = c.ended_on_out.result in
    let before : World = world (s c.args.shelf) p (i c.args.input) (o c.args.out) (r c.args.report.now) in
    let now : World = world (s done.shelf) p (i done.input) (o done.out) (r c.args.report.now) in
    let a = answer_of c.migrate-result.result in
    let one = c.one_answer.result.items in
    let printed = printed_one a c.answer_from.result one done.answers.items c.one_answer.ensures c.answer_from.ensures e.answers before.out now.out done.fault e.printed in
    let runs = migrate_run g.K.StateKeeper.shelf g.K.StateKeeper.keeps g.K.StateKeeper.strays g.K.StateKeeper.keeps_is g.K.StateKeeper.strays_known before now c.in-Ok.opened.0 c.migrate-result.new.self c.migrate-result.result done.fault
    c.in-Ok.ensures.same e.shelf c.in-Ok.ensures.strays c.in-Ok.ensures.keeps c.migrate-result.ensures printed refl (ap i e.input) refl in
    one_answer a c.answer_from.result one done.answers.items c.one_answer.ensures c.answer_from.ensures e.answers RunsMigrate before now done.fault done.status e.status c.in-Ok.ensures.opened runs

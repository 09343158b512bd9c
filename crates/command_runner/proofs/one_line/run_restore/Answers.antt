use Rattle.std.proofs.Common.{refl, sym, ap, subst}
use Rattle.vault_traits.specs.Told.{SinkTold}
use Rattle.store_model.specs.World.{World, world}
use Rattle.store_model.specs.Courses.{RunsRestore}
use Rattle.store_model.specs.Steps.{answer_of}
use Rattle.run_laws.proofs.OneLineRuns.{restore_run}
use Rattle.command_runner.specs.Going.{GoesOn}
use Rattle.command_runner.proofs.Openings.{one_answer, printed_one}
use Rattle.command_runner.proofs.one_line.run_restore.Goals as goal

pub returns : goal.returns
returns g c limits p =
    let s = g.S.Shelf.told in
    let i = g.I.Source.told in
    let o = g.O.Sink.told in
    let r = g.R.Sink.told in
    let e = c.ended_on_report.ensures in
    let done = c.ended_on_report.result in
    let before : World = world (s c.args.shelf) p (i c.args.input) (o c.args.out) (r c.args.report.now) in
    let now : World = world (s done.shelf) p (i done.input) (o c.restore-result.new.sink) (r c.ended_on_report.new.report) in
    let a = answer_of c.restore-result.result in
    let one = c.one_answer.result.items in
    let printed = printed_one a c.answer_from.result one done.answers.items c.one_answer.ensures c.answer_from.ensures e.answers before.report now.report done.fault e.printed in
    let runs = restore_run g.K.StateKeeper.shelf g.K.StateKeeper.keeps g.K.StateKeeper.strays g.K.StateKeeper.keeps_is g.K.StateKeeper.strays_known limits before now c.in-Ok.opened.0 c.restore-result.new.self c.args.set c.args.version c.args.cache c.restore-result.result done.fault
    c.in-Ok.ensures.same e.shelf c.in-Ok.ensures.strays c.in-Ok.ensures.keeps c.restore-result.ensures printed (ap i e.input) refl in
    subst (λ (t : SinkTold). GoesOn (RunsRestore c.args.set c.args.version c.args.cache limits) before (world (s done.shelf) p (i done.input) t (r c.ended_on_report.new.report)) done.answers.items done.fault done.status) (sym (ap o e.out))
    (one_answer a c.answer_from.result one done.answers.items c.one_answer.ensures c.answer_from.ensures e.answers (RunsRestore c.args.set c.args.version c.args.cache limits) before now done.fault done.status e.status c.in-Ok.ensures.opened runs)

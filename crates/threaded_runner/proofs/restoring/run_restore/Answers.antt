use Rattle.std.proofs.Common.{refl, sym, ap, subst}
use Rattle.vault_traits.specs.Told.{SinkTold}
use Rattle.store_model.specs.World.{World, world}
use Rattle.store_model.specs.Courses.{RunsRestore}
use Rattle.store_model.specs.Steps.{answer_of}
use Rattle.keeper_catalog.specs.View.{View}
use Rattle.keeper_core.specs.Keeping.{IsStateOf, IsKnownStray}
use Rattle.keeper_store.specs.Kept.{kept_of, known_of}
use Rattle.run_laws.proofs.OneLineRuns.{restore_run}
use Rattle.command_runner.specs.Going.{GoesOn}
use Rattle.command_runner.proofs.Openings.{one_answer, printed_one}
use Rattle.threaded_runner.proofs.restoring.run_restore.Goals as goal

pub returns : goal.returns
returns g c limits p =
    let s = g.S.Shelf.told in
    let i = g.I.Source.told in
    let o = g.O.Sink.told in
    let r = g.R.Sink.told in
    let b = c.restore_piped-store.result in
    let e = c.ended_on_report.ensures in
    let done = c.ended_on_report.result in
    let before : World = world (s c.args.shelf) p (i c.args.input) (o c.args.out) (r c.args.report.now) in
    let now : World = world (s done.shelf) p (i done.input) (o b.1) (r c.ended_on_report.new.report) in
    let a = answer_of b.2 in
    let one = c.one_answer.result.items in
    let printed = printed_one a c.answer_from.result one done.answers.items c.one_answer.ensures c.answer_from.ensures e.answers before.report now.report done.fault e.printed in
    let runs = restore_run (λ (k : View). k.told) IsStateOf IsKnownStray kept_of known_of limits before now c.in-Ok.opened.0 b.0 c.args.set c.args.version c.args.cache b.2 done.fault
    c.in-Ok.ensures.same e.shelf c.in-Ok.ensures.strays c.in-Ok.ensures.keeps c.restore_piped-store.ensures printed (ap i e.input) refl in
    subst (λ (t : SinkTold). GoesOn (RunsRestore c.args.set c.args.version c.args.cache limits) before (world (s done.shelf) p (i done.input) t (r c.ended_on_report.new.report)) done.answers.items done.fault done.status) (sym (ap o e.out))
    (one_answer a c.answer_from.result one done.answers.items c.one_answer.ensures c.answer_from.ensures e.answers (RunsRestore c.args.set c.args.version c.args.cache limits) before now done.fault done.status e.status c.in-Ok.ensures.opened runs)

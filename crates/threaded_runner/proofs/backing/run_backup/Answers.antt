use Rattle.std.proofs.Common.{refl, sym, ap, subst}
use Rattle.vault_traits.specs.Told.{SourceTold}
use Rattle.store_model.specs.World.{World, world}
use Rattle.store_model.specs.Courses.{RunsBackup}
use Rattle.store_model.specs.Steps.{answer_of}
use Rattle.keeper_catalog.specs.View.{View}
use Rattle.keeper_core.specs.Keeping.{IsStateOf, IsKnownStray}
use Rattle.keeper_store.specs.Kept.{kept_of, known_of}
use Rattle.run_laws.proofs.OneLineRuns.{backup_run}
use Rattle.command_runner.specs.Going.{GoesOn}
use Rattle.command_runner.proofs.Openings.{one_answer, printed_one}
use Rattle.threaded_runner.proofs.backing.run_backup.Goals as goal

pub returns : goal.returns
returns g c p =
    let s = g.S.Shelf.told in
    let i = g.I.Source.told in
    let o = g.O.Sink.told in
    let r = g.R.Sink.told in
    let b = c.back_up_piped-store.result in
    let e = c.ended_on_out.ensures in
    let done = c.ended_on_out.result in
    let before : World = world (s c.args.shelf) p (i c.args.input) (o c.args.out) (r c.args.report.now) in
    let now : World = world (s done.shelf) p (i b.1) (o done.out) (r c.args.report.now) in
    let a = answer_of b.2 in
    let one = c.one_answer.result.items in
    let printed = printed_one a c.answer_from.result one done.answers.items c.one_answer.ensures c.answer_from.ensures e.answers before.out now.out done.fault e.printed in
    let runs = backup_run (λ (k : View). k.told) IsStateOf IsKnownStray kept_of known_of c.args.limits.now before now c.in-Ok.opened.0 b.0 c.args.set c.args.config.now b.2 done.fault
    c.in-Ok.ensures.same e.shelf c.in-Ok.ensures.strays c.in-Ok.ensures.keeps c.back_up_piped-store.ensures printed refl refl in
    subst (λ (t : SourceTold). GoesOn (RunsBackup c.args.set c.args.config.now c.args.limits.now) before (world (s done.shelf) p t (o done.out) (r c.args.report.now)) done.answers.items done.fault done.status) (sym (ap i e.input))
    (one_answer a c.answer_from.result one done.answers.items c.one_answer.ensures c.answer_from.ensures e.answers (RunsBackup c.args.set c.args.config.now c.args.limits.now) before now done.fault done.status e.status c.in-Ok.ensures.opened runs)

use Rattle.std.proofs.Common.{◌∙◌, ap, refl}
use Rattle.store_model.specs.World.{World, world}
use Rattle.scrub_runner.proofs.ScrubRuns.{goes_done, goes_refused}
use Rattle.scrub_runner.proofs.running.run_scrub.Goals as goal

pub returns-in-Ok-scrub : goal.returns-in-Ok-scrub
returns-in-Ok-scrub g c p =
    let s = g.S.Shelf.told in
    let i = g.I.Source.told in
    let o = g.O.Sink.told in
    let r = g.R.Sink.told in
    let e = c.ended_done.ensures in
    let done = c.ended_done.result in
    let before : World = world (s c.args.shelf) p (i c.args.input) (o c.args.out) (r c.args.report.now) in
    let now : World = world (s done.shelf) p (i done.input) (o done.out) (r c.ended_done.new.report) in
    goes_done before now c.in-Ok.opened.0 c.into_keeper-keeper.result c.scrub.new.keeper c.in-Ok.ensures.opened c.into_keeper-keeper.ensures.keeper c.in-Ok.ensures.same c.in-Ok.ensures.keeps (ap s e.shelf ∙ c.close.ensures.told) (ap i e.input) refl done.answers.items done.fault done.status e.status
    c.in-Ok-scrub.found e.answers c.in-Ok-scrub.ensures e.ends

pub returns-in-Err-scrub : goal.returns-in-Err-scrub
returns-in-Err-scrub g c p =
    let s = g.S.Shelf.told in
    let i = g.I.Source.told in
    let o = g.O.Sink.told in
    let r = g.R.Sink.told in
    let e = c.ended_refused.ensures in
    let done = c.ended_refused.result in
    let before : World = world (s c.args.shelf) p (i c.args.input) (o c.args.out) (r c.args.report.now) in
    let now : World = world (s done.shelf) p (i done.input) (o done.out) (r c.args.report.now) in
    goes_refused before now c.in-Ok.opened.0 c.into_keeper-keeper.result c.scrub.new.keeper c.in-Ok.ensures.opened c.into_keeper-keeper.ensures.keeper c.in-Ok.ensures.same c.in-Ok.ensures.keeps (ap s e.shelf ∙ c.close-in-Err-scrub.ensures.told) (ap i e.input) refl done.answers.items done.fault done.status e.status
    c.in-Err-scrub.fault e.answers c.keeps_some_core.ensures c.in-Err-scrub.ensures e.printed refl

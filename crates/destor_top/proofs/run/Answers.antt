use Rattle.std.proofs.Common.{map, ◌∙◌, ap, Some}
use Rattle.std.specs.Prelude.{false, string_bytes}
use Rattle.vault_types.specs.declared.Command.{Command}
use Rattle.store_model.specs.World.{World, world}
use Rattle.destor_top.proofs.Reaching.{complete_early, complete_of_other, other_is, run_of_other}
use Rattle.destor_top.proofs.Scrubs.{complete_of_scrub, run_of_scrub}
use Rattle.destor_top.proofs.run.Goals as goal

pub returns-in-Err-clause-complete : goal.returns-in-Err-clause-complete
returns-in-Err-clause-complete g c =
    let before : World = world (g.S.Shelf.told c.args.shelf) (g.P.Places.told c.args.places.now) (g.I.Source.told c.args.input) (g.O.Sink.told c.args.out) (g.R.Sink.told c.args.report.now) in
    let r = c.ended_early.result in
    let now : World = world (g.S.Shelf.told r.shelf) (g.P.Places.told c.args.places.now) (g.I.Source.told r.input) (g.O.Sink.told r.out) (g.R.Sink.told c.ended_early.new.report) in
    let words = map string_bytes c.args.words.now in
    complete_early words c.args.limits.now before now r.answers.items r.fault c.in-Err.fault c.in-Err.ensures.err c.ended_early.ensures.fault c.ended_early.ensures.none

pub returns-in-Scrub-clause-run : goal.returns-in-Scrub-clause-run
returns-in-Scrub-clause-run g c =
    let before : World = world (g.S.Shelf.told c.args.shelf) (g.P.Places.told c.args.places.now) (g.I.Source.told c.args.input) (g.O.Sink.told c.args.out) (g.R.Sink.told c.args.report.now) in
    let r = c.run_scrub.result in
    let now : World = world (g.S.Shelf.told r.shelf) (g.P.Places.told c.args.places.now) (g.I.Source.told r.input) (g.O.Sink.told r.out) (g.R.Sink.told c.run_scrub.new.report) in
    let words = map string_bytes c.args.words.now in
    let is = c.in-Ok.ensures.ok ∙ ap (λ (d : Command). Some d) c.in-Scrub.is in
    run_of_scrub false words c.args.limits.now before now r.answers.items r.fault r.status c.in-Scrub.workers is (c.run_scrub.ensures before.places)

pub returns-in-Scrub-clause-complete : goal.returns-in-Scrub-clause-complete
returns-in-Scrub-clause-complete g c =
    let before : World = world (g.S.Shelf.told c.args.shelf) (g.P.Places.told c.args.places.now) (g.I.Source.told c.args.input) (g.O.Sink.told c.args.out) (g.R.Sink.told c.args.report.now) in
    let r = c.run_scrub.result in
    let now : World = world (g.S.Shelf.told r.shelf) (g.P.Places.told c.args.places.now) (g.I.Source.told r.input) (g.O.Sink.told r.out) (g.R.Sink.told c.run_scrub.new.report) in
    let words = map string_bytes c.args.words.now in
    let is = c.in-Ok.ensures.ok ∙ ap (λ (d : Command). Some d) c.in-Scrub.is in
    complete_of_scrub false words c.args.limits.now before now r.answers.items r.fault r.status c.in-Scrub.workers is (run_of_scrub false words c.args.limits.now before now r.answers.items r.fault r.status c.in-Scrub.workers is (c.run_scrub.ensures before.places))

pub returns-in_default-clause-run : goal.returns-in_default-clause-run
returns-in_default-clause-run g c =
    let before : World = world (g.S.Shelf.told c.args.shelf) (g.P.Places.told c.args.places.now) (g.I.Source.told c.args.input) (g.O.Sink.told c.args.out) (g.R.Sink.told c.args.report.now) in
    let r = c.run_threaded.result in
    let now : World = world (g.S.Shelf.told r.shelf) (g.P.Places.told c.run_threaded.new.places) (g.I.Source.told r.input) (g.O.Sink.told r.out) (g.R.Sink.told c.run_threaded.new.report) in
    let words = map string_bytes c.args.words.now in
    run_of_other false words c.args.limits.now before now r.answers.items r.fault (other_is words c.in-Ok.command c.in-Ok.ensures.ok c.in_default.not-Scrub) r.status c.run_threaded.ensures.run

pub returns-in_default-clause-complete : goal.returns-in_default-clause-complete
returns-in_default-clause-complete g c =
    let before : World = world (g.S.Shelf.told c.args.shelf) (g.P.Places.told c.args.places.now) (g.I.Source.told c.args.input) (g.O.Sink.told c.args.out) (g.R.Sink.told c.args.report.now) in
    let r = c.run_threaded.result in
    let now : World = world (g.S.Shelf.told r.shelf) (g.P.Places.told c.run_threaded.new.places) (g.I.Source.told r.input) (g.O.Sink.told r.out) (g.R.Sink.told c.run_threaded.new.report) in
    let words = map string_bytes c.args.words.now in
    complete_of_other false words c.args.limits.now before now r.answers.items r.fault (other_is words c.in-Ok.command c.in-Ok.ensures.ok c.in_default.not-Scrub) c.run_threaded.ensures.complete

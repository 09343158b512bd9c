use Rattle.std.proofs.Common.{Some, refl, sym, ap, subst}
use Rattle.vault_traits.specs.Told.{ShelfTold}
use Rattle.store_model.specs.Early.{IsSameBut, IsStartFault}
use Rattle.store_model.specs.Filling.{RunsFill}
use Rattle.store_model.specs.World.{World, world}
use Rattle.workload.specs.Places.{told_of}
use Rattle.command_runner.specs.Going.{HasNotOpened, HasRoom, HasRun}
use Rattle.command_runner.proofs.Fills.{filled}
use Rattle.command_runner.proofs.Openings.{if_err, if_ok, not_opened, ran}
use Rattle.command_runner.proofs.filling.ended_fill.Goals as goal

pub returns-in-Err : goal.returns-in-Err
returns-in-Err g c in_order seed versions old limits made places are generated ok room err =
    let s = g.S.Shelf.told in
    let i = g.I.Source.told in
    let o = g.O.Sink.told in
    let r = g.R.Sink.told in
    let x = c.ended_early in
    let e = x.ensures in
    let before : World = world old places (i c.args.input) (o c.args.out) (r c.args.report.now) in
    let now : World = world (s x.result.shelf) places (i x.result.input) (o x.result.out) (r x.new.report) in
    let h : HasNotOpened old (told_of made) (told_of c.args.left.now) c.in-Err.fault (s c.in-Err.shelf) = if_err _ c.args.ran (c.in-Err.fault, c.in-Err.shelf) c.in-Err.is err in
    not_opened (RunsFill in_order seed versions limits) before now x.result.answers.items x.result.fault c.in-Err.fault x.result.status
    (subst (λ (t : ShelfTold). IsSameBut old t × IsStartFault old t c.in-Err.fault) (sym (ap s e.shelf)) (h.same, h.why))
    e.fault e.none refl (ap i e.input) (ap o e.out) e.line e.status

pub returns-in-Ok : goal.returns-in-Ok
returns-in-Ok g c in_order seed versions old limits made places are generated ok room err =
    let s = g.S.Shelf.told in
    let i = g.I.Source.told in
    let o = g.O.Sink.told in
    let r = g.R.Sink.told c.args.report.now in
    let e = c.ended_with.ensures in
    let done = c.ended_with.result in
    let f = c.print_filled-fault.result in
    let before : World = world old places (i c.args.input) (o c.args.out) r in
    let now : World = world (s c.in-Ok.shelf) places (i c.args.input) (o c.print_filled-fault.new.out) r in
    let h : HasRun in_order old limits c.args.script.now (told_of made) (told_of c.args.left.now) c.in-Ok.answers.items (s c.in-Ok.shelf) = if_ok _ c.args.ran (c.in-Ok.answers, c.in-Ok.shelf) c.in-Ok.is ok in
    let enough : HasRoom old c.args.script.now (told_of made) (Some 8388671) c.in-Ok.answers.items = if_ok _ c.args.ran (c.in-Ok.answers, c.in-Ok.shelf) c.in-Ok.is room in
    let runs = filled in_order seed versions limits before now c.args.script.now c.args.script.now c.in-Ok.answers.items c.as_slice.result.now f made c.args.left.now
    are refl c.as_slice.ensures.value generated h.runs (λ T sources begins fed some. enough T sources begins fed some) c.print_filled-fault.ensures refl refl refl in
    ran (RunsFill in_order seed versions limits) before now (world (s done.shelf) places (i done.input) (o done.out) r) c.in-Ok.answers.items done.answers.items f done.fault done.status
    (λ j. world (s (e.shelf j)) places (i (e.input j)) (o (e.out j)) r) e.answers e.fault e.status h.opened runs

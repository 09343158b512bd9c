use Rattle.std.proofs.Common.{refl, sym, ap, subst, List}
use Rattle.vault_types.specs.declared.Answer.{Answer}
use Rattle.vault_traits.specs.Told.{ShelfTold}
use Rattle.store_model.specs.Early.{IsSameBut, IsStartFault}
use Rattle.store_model.specs.Run.{RanLines}
use Rattle.store_model.specs.World.{World, world, IsPrinted, report_text}
use Rattle.command_runner.specs.Going.{HasNotOpened, HasRun}
use Rattle.command_runner.proofs.Openings.{if_err, if_ok, not_opened, ran}
use Rattle.command_runner.proofs.scripts.ended_lines.Goals as goal

pub returns-in-Err : goal.returns-in-Err
returns-in-Err g c in_order old limits lines p q ok err =
    let s = g.S.Shelf.told in
    let i = g.I.Source.told in
    let o = g.O.Sink.told in
    let r = g.R.Sink.told in
    let x = c.ended_early in
    let e = x.ensures in
    let before : World = world old p (i c.args.input) (o c.args.out) (r c.args.report.now) in
    let now : World = world (s x.result.shelf) q (i x.result.input) (o x.result.out) (r x.new.report) in
    let h : HasNotOpened old p q c.in-Err.fault (s c.in-Err.shelf) = if_err _ c.args.ran (c.in-Err.fault, c.in-Err.shelf) c.in-Err.is err in
    not_opened (RanLines in_order lines limits) before now x.result.answers.items x.result.fault c.in-Err.fault x.result.status
    (subst (λ (t : ShelfTold). IsSameBut old t × IsStartFault old t c.in-Err.fault) (sym (ap s e.shelf)) (h.same, h.why))
    e.fault e.none h.places (ap i e.input) (ap o e.out) e.line e.status

pub returns-in-Ok : goal.returns-in-Ok
returns-in-Ok g c in_order old limits lines p q ok err =
    let s = g.S.Shelf.told in
    let i = g.I.Source.told in
    let o = g.O.Sink.told in
    let r = g.R.Sink.told c.args.report.now in
    let e = c.ended_with.ensures in
    let done = c.ended_with.result in
    let f = c.print_all-fault.result in
    let before : World = world old p (i c.args.input) (o c.args.out) r in
    let now : World = world (s c.in-Ok.shelf) q (i c.args.input) (o c.print_all-fault.new.out) r in
    let printed : IsPrinted (report_text c.in-Ok.answers.items) before.out now.out f = subst (λ (l : List Answer). IsPrinted (report_text l) before.out now.out f) c.as_slice.ensures.value c.print_all-fault.ensures.printed in
    let h : HasRun in_order old limits lines p q c.in-Ok.answers.items (s c.in-Ok.shelf) = if_ok _ c.args.ran (c.in-Ok.answers, c.in-Ok.shelf) c.in-Ok.is ok in
    let runs : RanLines in_order lines limits before now c.in-Ok.answers.items f = record { runs = h.runs; printed = printed; report = refl; input = refl } in
    ran (RanLines in_order lines limits) before now (world (s done.shelf) q (i done.input) (o done.out) r) c.in-Ok.answers.items done.answers.items f done.fault done.status
    (λ j. world (s (e.shelf j)) q (i (e.input j)) (o (e.out j)) r) e.answers e.fault e.status h.opened runs

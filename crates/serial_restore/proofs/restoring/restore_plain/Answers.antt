use Rattle.std.proofs.Common.{◌∙◌, sym}
use Rattle.serial_restore.proofs.Lines.{not_kept_line, kept_line}
use Rattle.serial_restore.proofs.restoring.restore_plain.Goals as goal

pub returns-then-not-kept-clause-line : goal.returns-then-not-kept-clause-line
returns-then-not-kept-clause-line g c =
    not_kept_line c.args.keeper.now (g.O.Sink.told c.args.sink.now) c.args.set c.args.version c.args.slots c.floor.result c.latest.result c.keeps_some_core.ensures c.ranges.set.fits
    (λ K keeps. sym c.if-not-kept.true ∙ c.kept.ensures K keeps) c.floor.ensures c.latest.ensures

pub returns-clause-line : goal.returns-clause-line
returns-clause-line g c =
    kept_line c.args.keeper.now c.restore_kept.new.keeper (g.O.Sink.told c.args.sink.now) (g.O.Sink.told c.restore_kept.new.sink) c.args.set c.args.version c.args.slots c.restore_kept.result c.keeps_some_core.ensures c.ranges.set.fits
    (λ K keeps. sym c.if-not-kept.false ∙ c.kept.ensures K keeps) c.restore_kept.ensures

use Rattle.std.proofs.Common.{◌∙◌, sym}
use Rattle.serial_restore.proofs.Lines.{not_kept_line}
use Rattle.piped_restore.proofs.restoring.restore_in_thread.Goals as goal

pub returns-then-not-kept-clause-line : goal.returns-then-not-kept-clause-line
returns-then-not-kept-clause-line g c =
    not_kept_line c.args.keeper.now (g.O.Sink.told c.args.sink) c.args.set c.args.version c.args.slots c.floor.result c.latest.result c.keeps_some_core.ensures c.ranges.set.fits
    (λ K keeps. sym c.if-not-kept.true ∙ c.kept.ensures K keeps) c.floor.ensures c.latest.ensures

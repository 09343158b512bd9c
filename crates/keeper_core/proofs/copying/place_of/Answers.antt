use Rattle.std.proofs.Common.{sym, ◌∙◌}
use Rattle.vault_types.proofs.FillLemmas.{same_fps}
use Rattle.keeper_core.proofs.Copyings.{at_place}
use Rattle.keeper_core.proofs.copying.place_of.Goals as goal

pub returns-then-eq : goal.returns-then-eq
returns-then-eq c =
    at_place c.args.rows.now c.loop-row.row-index c.loop-row.number _ c.args.fp.now c.loop-row.invariant.number c.loop-row-test.true (same_fps _ c.args.fp.now (sym c.eq.ensures ∙ c.if-eq.true))

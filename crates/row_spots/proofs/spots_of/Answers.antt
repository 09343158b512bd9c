use Rattle.std.proofs.Common.{◌≡◌, ◌∙◌, sym, subst}
use Rattle.std.proofs.lemmas.Option.{MatchOption-at_none}
use Rattle.row_spots.specs.Spots.{IsFirstWithout}
use Rattle.row_spots.proofs.Fitting.{first_without}
use Rattle.row_spots.proofs.spots_of.Goals as goal

pub returns-in-None-clause-bad : goal.returns-in-None-clause-bad
returns-in-None-clause-bad c = λ i e.
    let same : c.loop-row.number ≡ i = cc in
    subst (IsFirstWithout c.args.tables.now.entries c.args.rows.now) (sym c.loop-row.invariant.number ∙ same)
    (first_without c.args.tables.now.entries c.args.rows.now c.loop-row.row-index _ c.loop-row-test.true c.loop-row.invariant.placed (MatchOption-at_none _ _ c.in-None.is c.in_ok-spot.ensures.absent))

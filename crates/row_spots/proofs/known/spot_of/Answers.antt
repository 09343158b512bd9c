use Rattle.std.proofs.Common.{sym, ap, ◌∙◌, subst}
use Rattle.row_spots.specs.Offsets.{fitting_spot}
use Rattle.row_spots.proofs.Fitting.{IsAnswer, answers, known_place}
use Rattle.row_spots.proofs.known.spot_of.Goals as goal

pub returns : goal.returns
returns c =
    let tables = c.args.tables.now.entries in
    let row = c.args.row.now in
    let answer : IsAnswer tables row c.fitting.result =
    subst (IsAnswer tables row) (sym (c.fitting.ensures ∙ ap (fitting_spot row) (c.place_of.ensures ∙ known_place tables c.make_known.new.known.entries row c.in_ok-make_known.ensures.there)))
    (answers tables row c.requires.rules) in
    record { spot = answer.spot; placed = answer.placed; absent = answer.absent; known = c.in_ok-make_known.ensures.known }

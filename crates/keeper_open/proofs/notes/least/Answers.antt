use Rattle.std.proofs.Common.{◌∙◌, sym, ap, ◌++◌, ◌∷◌, [], List}
use Rattle.std.specs.Map.Iter.{deref}
use Rattle.std.specs.Map.{values_of}
use Rattle.std.proofs.lemmas.Map.Iter.{rest_more, rest_all}
use Rattle.std.proofs.lemmas.List.{append_assoc}
use Rattle.keeper_open.specs.declared.notes.RowPlace.{RowPlace}
use Rattle.keeper_open.proofs.Noting.{least_more, whole_least, end_some, end_least}
use Rattle.keeper_open.proofs.notes.least.Goals as goal

pub loop-place-preserved : goal.loop-place-preserved
loop-place-preserved c =
    let inv = c.loop-place.invariant in
    let rest = rest_more deref c.loop-place.place-iterator c.next.new.self c.next.result c.in-Some.place c.in-Some.is c.next.ensures.steps in (
      inv.0 ++ c.in-Some.place.now ∷ [],
      append_assoc inv.0 (c.in-Some.place.now ∷ []) c.next.new.self ∙ ap (λ (l : List RowPlace). inv.0 ++ l) (sym rest) ∙ inv.1,
      least_more c.loop-place.best inv.0 c.in-Some.place.now c.lesser_of.result inv.2 c.lesser_of.ensures,
    )

pub returns-clause-some : goal.returns-clause-some
returns-clause-some c =
    let inv = c.loop-place.invariant in
    let rest = rest_all deref c.loop-place.place-iterator c.next.new.self c.next.result c.in-None.is c.next.ensures.steps in
    end_some c.loop-place.best c.args.places.now.entries (whole_least c.loop-place.best inv.0 c.loop-place.place-iterator (values_of c.args.places.now.entries) inv.1 rest inv.2) c.values-place-items.ensures.unique

pub returns-clause-least : goal.returns-clause-least
returns-clause-least c =
    let inv = c.loop-place.invariant in
    let rest = rest_all deref c.loop-place.place-iterator c.next.new.self c.next.result c.in-None.is c.next.ensures.steps in
    end_least c.loop-place.best c.args.places.now.entries (whole_least c.loop-place.best inv.0 c.loop-place.place-iterator (values_of c.args.places.now.entries) inv.1 rest inv.2)

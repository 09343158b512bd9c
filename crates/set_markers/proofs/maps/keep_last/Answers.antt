use Rattle.std.proofs.Common.{◌≡◌, ◌+◌, ◌<◌, ℕ, List, length, get_or, sym, ap, subst, ◌∙◌, arith}
use Rattle.std.specs.Prelude.{nat_eq}
use Rattle.std.proofs.lemmas.List.{get_or_default}
use Rattle.std.proofs.lemmas.List.Filters.{FiltersInPlace, FiltersInPlace-more_set, FiltersInPlace-more_no}
use Rattle.set_markers.specs.SetMarkers.{count_of}
use Rattle.set_markers.proofs.Keeping.{same_place, still_marked, still_counted, forgotten-more, fewer-more}
use Rattle.set_markers.proofs.maps.keep_last.Goals as goal
use Rattle.set_markers.proofs.maps.keep_last.Goals.{then-forget, else-forget}

pub forget-requires-clause-marked : goal.forget-requires-clause-marked
forget-requires-clause-marked c =
    still_marked c.args.set c.args.markers.now.entries c.loop-i.markers.entries c.args.ids.now c.loop-i.i (get_or c.loop-i.ids c.loop-i.i 0) c.requires.once c.loop-i-test.true c.requires.marked c.loop-i.invariant.forgotten
    (same_place c.args.ids.now c.loop-i.ids c.loop-i.i c.loop-i.invariant.kept.rest)

pub loop-i-preserved : goal.loop-i-preserved
loop-i-preserved c =
    let id : ℕ = get_or c.loop-i.ids c.loop-i.i 0 in
    let same : id ≡ get_or c.args.ids.now c.loop-i.i 0 = same_place c.args.ids.now c.loop-i.ids c.loop-i.i c.loop-i.invariant.kept.rest in
    let within : c.loop-i.i < length c.loop-i.ids = omega (arith, c.loop-i-test.true, c.loop-i.auto.ids) in
    let last : c.forget.result ≡ nat_eq (count_of id c.args.markers.now.entries) 1 =
    c.forget.ensures.last ∙ ap (λ n. nat_eq n 1) (still_counted c.args.markers.now.entries c.loop-i.markers.entries c.args.ids.now c.loop-i.i id c.requires.once c.loop-i-test.true c.loop-i.invariant.fewer same) in
    let place : id ≡ get_or c.loop-i.ids c.loop-i.i id = get_or_default c.loop-i.ids c.loop-i.i 0 id within in
    let InPlace : List ℕ → ℕ → Type 0 = λ ids n. FiltersInPlace (λ m. nat_eq (count_of m c.args.markers.now.entries) 1) c.args.ids.now ids n (c.loop-i.i + 1) in record {
      counted = c.forget.ensures.counted;
      kept = elim c.if-forget.branch [
        | then-forget w ↦ subst (λ n. InPlace c.if-forget.ids n) (sym w.kept-is)
            (subst (λ ids. InPlace ids (c.loop-i.kept + 1)) (sym w.ids-is) (FiltersInPlace-more_set c.loop-i.invariant.kept within (sym last ∙ w.if-forget.true) place))
        | else-forget w ↦ subst (λ n. InPlace c.if-forget.ids n) (sym w.kept-is)
            (subst (λ ids. InPlace ids c.loop-i.kept) (sym w.ids-is) (FiltersInPlace-more_no c.loop-i.invariant.kept within (sym last ∙ w.if-forget.false) place))
      ];
      forgotten = forgotten-more c.args.set c.args.markers.now.entries c.loop-i.markers.entries c.forget.new.markers.entries c.args.ids.now c.loop-i.i id c.loop-i-test.true c.loop-i.invariant.forgotten same c.forget.ensures.forgotten;
      fewer = fewer-more c.args.markers.now.entries c.loop-i.markers.entries c.forget.new.markers.entries c.args.ids.now c.loop-i.i id c.requires.once c.loop-i-test.true c.loop-i.invariant.fewer same c.forget.ensures.fewer;
      unique = λ u. c.forget.ensures.once;
      markers_room = omega (arith, c.loop-i.invariant.markers_room, c.forget.ensures.markers);
      counts_room = omega (arith, c.loop-i.invariant.counts_room, c.forget.ensures.counts);
    }

use Rattle.std.proofs.Common.{◌≡◌, ◌++◌, ℕ, List, map, drop, length, refl, sym, ap, subst, ◌∙◌, rules}
use Rattle.std.specs.Prelude.{nat_eq, IsSome}
use Rattle.std.specs.List.{AllByRecursion, IsDistinct}
use Rattle.std.specs.Map.{lookup}
use Rattle.std.proofs.lemmas.List.{drop_at}
use Rattle.set_markers.specs.SetMarkers.{is_key, is_below, AreMarkersOfSets}
use Rattle.set_markers.proofs.Naming.{markers_of_sets}
use Rattle.set_markers.proofs.Keeping.{AreForgotten}
use Rattle.set_markers.proofs.Taking.{below_ids, below-marked, IsDistinct-filter, each-above, taken}
use Rattle.set_markers.proofs.SetMarkers.take_below.Goals as goal

-- what was pushed
pushed_ids : (made before ids : List ℕ) (start : ℕ) → start ≡ length before → made ≡ before ++ ids → drop start made ≡ ids
pushed_ids made before ids start e m = ap (drop start) m ∙ drop_at before ids start (sym e)

pub forget_from-requires-clause-once : goal.forget_from-requires-clause-once
forget_from-requires-clause-once c =
    let at : c.len-start.result ≡ length c.args.out.now.items = search rules in
    subst (IsDistinct nat_eq) (sym (pushed_ids c.push_below.new.out.items c.args.out.now.items (below_ids c.args.set c.args.floor c.self.inside.markers.entries c.self.inside.counts.entries) c.len-start.result at c.push_below.ensures.ids))
    (IsDistinct-filter (is_below c.args.set c.args.floor c.self.inside.markers.entries) (map (λ e. e.0) c.self.inside.counts.entries) c.push_below.ensures.once)

pub forget_from-requires-clause-marked : goal.forget_from-requires-clause-marked
forget_from-requires-clause-marked c =
    let at : c.len-start.result ≡ length c.args.out.now.items = search rules in
    subst (AllByRecursion (λ i. IsSome (lookup (is_key c.args.set i) c.self.inside.markers.entries)))
    (sym (pushed_ids c.push_below.new.out.items c.args.out.now.items (below_ids c.args.set c.args.floor c.self.inside.markers.entries c.self.inside.counts.entries) c.len-start.result at c.push_below.ensures.ids))
    (below-marked c.args.set c.args.floor c.self.inside.markers.entries c.self.inside.counts.entries)

pub returns-clause-freed : goal.returns-clause-freed
returns-clause-freed c = λ marks h.
    let at : c.len-start.result ≡ length c.args.out.now.items = search rules in
    let before : AreMarkersOfSets _ marks = subst (λ m. AreMarkersOfSets m marks) (sym c.self.view_is) h in
    taken c.args.set c.args.floor c.len-start.result c.self.inside.markers.entries c.forget_from.new.markers.entries c.self.inside.counts.entries marks
    c.args.out.now.items c.push_below.new.out.items c.forget_from.new.ids.items c.sort_from.new.ids.items
    before.each c.self.invariant c.push_below.ensures.once at c.push_below.ensures.ids c.forget_from.ensures.forgotten c.forget_from.ensures.fewer c.forget_from.ensures.kept
    c.sort_from.ensures.front c.sort_from.ensures.same c.sort_from.ensures.sorted

pub returns-clause-left : goal.returns-clause-left
returns-clause-left c = λ marks h.
    let at : c.len-start.result ≡ length c.args.out.now.items = search rules in
    let before : AreMarkersOfSets _ marks = subst (λ m. AreMarkersOfSets m marks) (sym c.self.view_is) h in
    let ids : List ℕ = below_ids c.args.set c.args.floor c.self.inside.markers.entries c.self.inside.counts.entries in
    markers_of_sets _ c.forget_from.new.counts.entries _ refl c.forget_from.ensures.counted (c.forget_from.ensures.unique c.push_below.ensures.once)
    (each-above c.args.set c.args.floor c.self.inside.markers.entries c.forget_from.new.markers.entries c.self.inside.counts.entries marks before.each c.self.invariant
    (subst (AreForgotten c.args.set c.self.inside.markers.entries c.forget_from.new.markers.entries) (pushed_ids c.push_below.new.out.items c.args.out.now.items ids c.len-start.result at c.push_below.ensures.ids) c.forget_from.ensures.forgotten))

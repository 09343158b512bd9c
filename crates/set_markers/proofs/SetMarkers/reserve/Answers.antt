use Rattle.std.proofs.Common.{refl, sym, ap, subst, ◌∙◌}
use Rattle.set_markers.specs.SetMarkers.{some_count, AreMarkersOfSets}
use Rattle.set_markers.proofs.Counting.{count_of-moved}
use Rattle.set_markers.proofs.Naming.{markers_of_sets}
use Rattle.set_markers.proofs.SetMarkers.reserve.Goals as goal

pub invariant_of-self-2 : goal.invariant_of-self-2
invariant_of-self-2 c = λ i. c.reserve-2.ensures.entries.2 i ∙ c.self.invariant i ∙ ap some_count (sym (count_of-moved i c.self.inside.markers.entries c.reserve.new.self.entries c.reserve.ensures.entries.0))

pub returns-in_err-reserve-2-clause-same : goal.returns-in_err-reserve-2-clause-same
returns-in_err-reserve-2-clause-same c = λ marks h.
    let before : AreMarkersOfSets _ marks = subst (λ m. AreMarkersOfSets m marks) (sym c.self.view_is) h in
    markers_of_sets _ c.reserve-2.new.self.entries marks refl
    (λ i. c.reserve-2.ensures.entries.2 i ∙ c.self.invariant i ∙ ap some_count (sym (count_of-moved i c.self.inside.markers.entries c.reserve.new.self.entries c.reserve.ensures.entries.0)))
    c.reserve-2.ensures.unique (λ s i. c.reserve.ensures.entries.2 (s, i) ∙ before.each s i)

pub returns-clause-same : goal.returns-clause-same
returns-clause-same c = λ marks h.
    let before : AreMarkersOfSets _ marks = subst (λ m. AreMarkersOfSets m marks) (sym c.self.view_is) h in
    markers_of_sets _ c.reserve-2.new.self.entries marks refl (invariant_of-self-2 c) c.reserve-2.ensures.unique (λ s i. c.reserve.ensures.entries.2 (s, i) ∙ before.each s i)

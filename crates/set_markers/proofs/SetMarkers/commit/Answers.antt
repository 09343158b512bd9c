use Rattle.std.proofs.Common.{refl, sym, subst}
use Rattle.set_markers.specs.SetMarkers.{AreMarkersOfSets}
use Rattle.set_markers.proofs.Naming.{markers_of_sets}
use Rattle.set_markers.proofs.Taking.{each-more}
use Rattle.set_markers.proofs.SetMarkers.commit.Goals as goal

pub returns-clause-marks : goal.returns-clause-marks
returns-clause-marks c = λ marks h.
    let before : AreMarkersOfSets _ marks = subst (λ m. AreMarkersOfSets m marks) (sym c.self.view_is) h in
    markers_of_sets _ c.mark_all.new.counts.entries _ refl c.mark_all.ensures.counted (c.mark_all.ensures.once before.once)
    (each-more c.self.inside.markers.entries c.mark_all.new.markers.entries c.args.set c.args.version c.args.ids.now marks before.each c.mark_all.ensures.marked)

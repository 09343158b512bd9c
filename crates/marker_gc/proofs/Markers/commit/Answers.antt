use Rattle.std.proofs.Common.{sym, subst}
use Rattle.marker_gc.specs.Markers.{AreMarkers}
use Rattle.marker_gc.proofs.Marking.{markers-more}
use Rattle.marker_gc.proofs.Markers.commit.Goals as goal

pub returns-clause-marks : goal.returns-clause-marks
returns-clause-marks c = λ s marks h.
    let before : AreMarkers c.self.inside.markers.entries s marks = subst (λ m. AreMarkers m.markers s marks) (sym c.self.view_is) h in
    markers-more c.self.inside.markers.entries c.mark_all.new.markers.entries s c.args.version c.args.ids.now marks before (c.mark_all.ensures.once before.once) c.mark_all.ensures.marked

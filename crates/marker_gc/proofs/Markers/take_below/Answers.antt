use Rattle.std.proofs.Common.{sym, subst, rules}
use Rattle.vault_types.specs.Marks.{marks_above}
use Rattle.marker_gc.specs.Markers.{AreMarkers}
use Rattle.marker_gc.proofs.Marking.{markers-above}
use Rattle.marker_gc.proofs.Taking.{taken}
use Rattle.marker_gc.proofs.Markers.take_below.Goals as goal

pub returns-clause-freed : goal.returns-clause-freed
returns-clause-freed c = λ s marks h.
    taken c.self.inside.markers.entries s c.args.floor c.len-start.result marks c.args.out.now.items c.push_below.new.out.items c.sort_from.new.ids.items
    (subst (λ m. AreMarkers m.markers s marks) (sym c.self.view_is) h) (search rules) c.push_below.ensures.ids c.sort_from.ensures.front c.sort_from.ensures.same c.sort_from.ensures.sorted

pub returns-clause-left : goal.returns-clause-left
returns-clause-left c = λ s marks h.
    subst (λ es. AreMarkers es s (marks_above s c.args.floor marks)) (sym c.drop_below.ensures.kept)
    (markers-above c.self.inside.markers.entries s c.args.floor marks (subst (λ m. AreMarkers m.markers s marks) (sym c.self.view_is) h))

use Rattle.std.proofs.Common.{length, ap, ◌∙◌}
use Rattle.marker_gc.proofs.Marking.{count-ids}
use Rattle.marker_gc.proofs.Markers.count.Goals as goal

pub returns-clause-ids : goal.returns-clause-ids
returns-clause-ids c = λ s marks h. c.len.ensures.len ∙ ap (λ m. length m.markers) c.self.view_is ∙ count-ids c.args.self.now.markers s marks h

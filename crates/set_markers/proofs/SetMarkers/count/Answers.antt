use Rattle.std.proofs.Common.{length, ap, sym, ◌∙◌}
use Rattle.std.proofs.lemmas.List.{length-map}
use Rattle.set_markers.proofs.Naming.{count-ids}
use Rattle.set_markers.proofs.SetMarkers.count.Goals as goal

pub returns-clause-ids : goal.returns-clause-ids
returns-clause-ids c = λ marks h.
    c.len.ensures.len ∙ sym (length-map c.self.inside.counts.entries (λ e. e.0)) ∙ ap (λ m. length m.ids) c.self.view_is ∙ count-ids c.args.self.now marks h

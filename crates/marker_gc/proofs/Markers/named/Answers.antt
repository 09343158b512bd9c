use Rattle.std.proofs.Common.{sym, ap, ◌∙◌}
use Rattle.std.specs.Prelude.{nat_eq, is_some}
use Rattle.std.specs.Map.{lookup}
use Rattle.marker_gc.proofs.Marking.{named-each}
use Rattle.marker_gc.proofs.Markers.named.Goals as goal

pub returns : goal.returns
returns c = λ s marks h.
    c.contains_key.ensures ∙ ap (λ m. is_some (lookup (nat_eq c.args.id) m.markers)) c.self.view_is ∙ sym (named-each c.args.self.now.markers s marks h c.args.id)

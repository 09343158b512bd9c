use Rattle.std.proofs.Common.{ap, ◌∙◌}
use Rattle.std.specs.Prelude.{nat_eq}
use Rattle.std.proofs.lemmas.Map.Made.{is_some-lookup}
use Rattle.vault_types.specs.Lists.{has}
use Rattle.set_markers.proofs.SetMarkers.named.Goals as goal

pub returns : goal.returns
returns c = λ marks h.
    c.contains_key.ensures ∙ is_some-lookup (nat_eq c.args.id) c.self.inside.counts.entries ∙ ap (λ m. has c.args.id m.ids) c.self.view_is ∙ h.ids c.args.id

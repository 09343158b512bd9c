use Rattle.std.proofs.Common.{ap, ◌∙◌}
use Rattle.std.specs.List.{list_any}
use Rattle.vault_types.specs.Lists.{has}
use Rattle.restore_pins.proofs.Pinning.{has-listed_ids}
use Rattle.restore_pins.proofs.Callers.{has-pinned}
use Rattle.restore_pins.proofs.Pins.holds.Goals as goal

pub returns-clause-listed : goal.returns-clause-listed
returns-clause-listed c =
    c.any_lists.ensures ∙ ap (list_any (λ p. has c.args.id p.ids)) (c.as_slice.ensures.value ∙ c.self.view_is) ∙ has-listed_ids c.args.id c.args.self.now

pub returns-clause-pins : goal.returns-clause-pins
returns-clause-pins c = λ pins h. returns-clause-listed c ∙ has-pinned c.args.id c.args.self.now pins h

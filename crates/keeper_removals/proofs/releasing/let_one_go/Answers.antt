use Rattle.std.proofs.Common.{ap, sym, ◌∙◌, not, ◌&&◌, Bool}
use Rattle.vault_types.specs.Lists.{has}
use Rattle.vault_types.specs.Marks.{marked_ids}
use Rattle.restore_pins.specs.Pins.{listed_ids}
use Rattle.keeper_removals.proofs.Gone.{leaves_goes}
use Rattle.keeper_removals.proofs.releasing.let_one_go.Goals as goal

pub returns-clause-left : goal.returns-clause-left
returns-clause-left c = λ marks are. leaves_goes (λ k. not (has k (marked_ids marks)) && not (has k (listed_ids c.args.pins.now))) c.args.id _ _ _ _
    (ap (λ (b : Bool). not b && not (has c.args.id (listed_ids c.args.pins.now))) (sym (c.named.ensures marks are) ∙ c.if-named.false) ∙ ap not (sym c.holds.ensures.listed ∙ c.if-holds.false))
    c.let_go.ensures.left

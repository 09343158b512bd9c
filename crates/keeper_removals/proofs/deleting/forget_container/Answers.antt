use Rattle.std.proofs.Common.{ap, sym, ◌∙◌, not}
use Rattle.vault_types.specs.Lists.{has}
use Rattle.restore_pins.specs.Pins.{listed_ids}
use Rattle.keeper_removals.proofs.Gone.{leaves_stays, leaves_goes}
use Rattle.keeper_removals.proofs.deleting.forget_container.Goals as goal

pub returns-then-holds-clause-left : goal.returns-then-holds-clause-left
returns-then-holds-clause-left c = leaves_stays (λ k. not (has k (listed_ids c.args.pins.now))) c.args.id _ _ (ap not (sym c.holds.ensures.listed ∙ c.if-holds.true))

pub returns-clause-left : goal.returns-clause-left
returns-clause-left c = leaves_goes (λ k. not (has k (listed_ids c.args.pins.now))) c.args.id _ _ _ _ (ap not (sym c.holds.ensures.listed ∙ c.if-holds.false)) c.let_go.ensures.left

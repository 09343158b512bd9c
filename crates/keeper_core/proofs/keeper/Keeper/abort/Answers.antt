use Rattle.std.proofs.Common.{refl, sym, subst, ap, ◌∙◌, arith}
use Rattle.vault_types.specs.Events.{after_abort}
use Rattle.keeper_catalog.specs.View.{View, Keeps}
use Rattle.keeper_core.specs.Stands.{job_of}
use Rattle.keeper_core.proofs.Keeping.{aborted}
use Rattle.keeper_core.proofs.keeper.Keeper.abort.Goals as goal

pub invariant_of-self : goal.invariant_of-self
invariant_of-self g c =
    let k = c.self.invariant.0 in
    let room = c.self.invariant.1 in
    ((after_abort k.0, aborted _ k.0 k.1 c.in-Lent.job (ap job_of c.in-Lent.is) _ _ (c.requires.lent ∙ ap (λ (v : View). v.index) (sym c.self.view_is)) refl refl refl c.forget_tables.ensures.gone), record { names = omega (arith, room.names, c.forget_tables.ensures.fewer); ids = room.ids })

pub returns-clause-aborts : goal.returns-clause-aborts
returns-clause-aborts g c K keeps =
    let k = subst (λ (v : View). Keeps v K) (sym c.self.view_is) keeps in
    aborted _ K k c.in-Lent.job (ap job_of c.in-Lent.is) _ _ (c.requires.lent ∙ ap (λ (v : View). v.index) (sym c.self.view_is)) refl refl refl c.forget_tables.ensures.gone

pub returns-clause-pins : goal.returns-clause-pins
returns-clause-pins g c = ap (λ (v : View). v.pins) c.self.view_is

use Rattle.std.proofs.Common.{◌≡◌, ◌+◌, ◌++◌, ◌∷◌, [], sym, ap, subst, ◌∙◌, rules}
use Rattle.vault_types.specs.Lists.{has}
use Rattle.restore_pins.specs.Pins.{numbers, AreListsOf}
use Rattle.restore_pins.specs.Numbers.{ArePinNumbers}
use Rattle.restore_pins.proofs.Pinning.{fresh, numbered-more}
use Rattle.restore_pins.proofs.Callers.{lists-more}
use Rattle.restore_pins.proofs.Pins.pin.Goals as goal

pub invariant_of-self-2 : goal.invariant_of-self-2
invariant_of-self-2 c =
    let next : c.in_ok-next.next ≡ c.self.inside.next + 1 = search rules in
    subst (ArePinNumbers c.in_ok-next.next) (sym c.in_ok-push.ensures.items)
    (subst (λ n. ArePinNumbers n (c.self.inside.pins.items ++ c.in_ok-pin.pin ∷ [])) (sym next) (numbered-more c.self.inside.next c.self.inside.pins.items c.in_ok-pin.pin c.self.invariant (ap (λ p. p.number) c.in_ok-pin.ensures)))

pub returns-clause-fresh : goal.returns-clause-fresh
returns-clause-fresh c = ap (λ ps. has c.self.inside.next (numbers ps)) (sym c.self.view_is) ∙ fresh c.self.inside.next c.self.inside.pins.items c.self.invariant

pub returns-clause-pins : goal.returns-clause-pins
returns-clause-pins c = λ pins q h i.
    subst (λ ls. AreListsOf ls (pins ++ q ∷ []))
    (sym (c.in_ok-push.ensures.items ∙ ap (λ ls. ls ++ c.in_ok-pin.pin ∷ []) c.self.view_is ∙ ap (λ p. c.args.self.now ++ p ∷ []) c.in_ok-pin.ensures))
    (lists-more c.args.self.now pins (record { number = c.self.inside.next; version = c.args.version; ids = c.args.ids.items }) q h i)

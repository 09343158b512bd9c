use Rattle.std.proofs.Common.{◌≡◌, ◌<◌, ◌≤◌, ℕ, List, true, length, get_or, sym, ap, subst, ◌∙◌, arith}
use Rattle.std.specs.List.{remove}
use Rattle.vault_types.specs.Lists.{has}
use Rattle.restore_pins.specs.Pins.{Listed, numbers, ids_at, without_pin, AreListsOf}
use Rattle.restore_pins.specs.Numbers.{ArePinNumbers}
use Rattle.vault_types.specs.Events.{pins_without}
use Rattle.restore_pins.proofs.Pinning.{place_of, place-some, place-none, some_place, ids-at_place, removed, numbered-without}
use Rattle.restore_pins.proofs.Callers.{lists-without}
use Rattle.restore_pins.proofs.Pins.release.Goals as goal

pub unreachable-requires : goal.unreachable-requires
unreachable-requires c =
    let n : ℕ = c.no.inside.number in
    let pins : List Listed = c.as_slice.result.now in
    let here : has n (numbers pins) ≡ true = ap (λ ps. has n (numbers ps)) (c.as_slice.ensures.value ∙ c.self.view_is) ∙ ap (λ k. has k (numbers c.args.self.now)) c.no.view_is ∙ c.requires in
    let some : place_of n pins < length pins = some_place n pins here in
    let none : length pins ≤ place_of n pins = place-none n pins c.place.result c.place.ensures c.in-None.is in
    omega arith

-- the pins as they are when the number is found, with the pin that stands there
pub returns-clause-ids : goal.returns-clause-ids
returns-clause-ids c =
    let n : ℕ = c.no.inside.number in
    let pins : List Listed = c.as_slice.result.now in
    let at : (c.in-Some.at ≡ place_of n pins) × (place_of n pins < length pins) = place-some n pins c.place.result c.in-Some.at c.place.ensures c.in-Some.is in
    c.into_ids.ensures
    ∙ ap (λ p. p.ids) (c.remove.ensures.value ∙ ap (λ ps. get_or ps c.in-Some.at c.remove.result) (sym c.as_slice.ensures.value) ∙ ap (λ i. get_or pins i c.remove.result) at.0)
    ∙ sym (ids-at_place n pins c.remove.result at.1)
    ∙ ap (λ ps. ids_at ps n) (c.as_slice.ensures.value ∙ c.self.view_is)
    ∙ ap (ids_at c.args.self.now) c.no.view_is

pub returns-clause-left : goal.returns-clause-left
returns-clause-left c =
    let n : ℕ = c.no.inside.number in
    let pins : List Listed = c.as_slice.result.now in
    let at : (c.in-Some.at ≡ place_of n pins) × (place_of n pins < length pins) = place-some n pins c.place.result c.in-Some.at c.place.ensures c.in-Some.is in
    let numbered : ArePinNumbers c.self.inside.next pins = subst (ArePinNumbers c.self.inside.next) (sym c.as_slice.ensures.value) c.self.invariant in
    c.remove.ensures.items
    ∙ ap (λ ps. remove ps c.in-Some.at) (sym c.as_slice.ensures.value) ∙ ap (remove pins) at.0
    ∙ removed n pins numbered.differ at.1
    ∙ ap (without_pin n) (c.as_slice.ensures.value ∙ c.self.view_is)
    ∙ ap (λ k. without_pin k c.args.self.now) c.no.view_is

pub invariant_of-self : goal.invariant_of-self
invariant_of-self c =
    let numbered : ArePinNumbers c.self.inside.next c.args.self.now = subst (ArePinNumbers c.self.inside.next) c.self.view_is c.self.invariant in
    subst (ArePinNumbers c.self.inside.next) (sym (returns-clause-left c)) (numbered-without c.self.inside.next c.args.no c.args.self.now numbered)

pub returns-clause-pins : goal.returns-clause-pins
returns-clause-pins c = λ pins h. subst (λ ls. AreListsOf ls (pins_without c.args.no pins)) (sym (returns-clause-left c)) (lists-without c.args.no c.args.self.now pins h)

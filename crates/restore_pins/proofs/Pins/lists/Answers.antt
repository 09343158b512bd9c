use Rattle.std.proofs.Common.{◌≡◌, ◌<◌, ℕ, List, length, get_or, sym, ap, ◌∙◌}
use Rattle.vault_types.specs.Lists.{has}
use Rattle.restore_pins.specs.Pins.{Listed, ids_at}
use Rattle.restore_pins.proofs.Pinning.{place_of, place-some, place-none, ids-at_place, ids-at_none}
use Rattle.restore_pins.proofs.Pins.lists.Goals as goal

pub returns-in-Some : goal.returns-in-Some
returns-in-Some c =
    let n : ℕ = c.no.inside.number in
    let pins : List Listed = c.as_slice.result.now in
    let at : (c.in-Some.at ≡ place_of n pins) × (place_of n pins < length pins) = place-some n pins c.place.result c.in-Some.at c.place.ensures c.in-Some.is in
    c.lists.ensures
    ∙ ap (λ p. has c.args.id p.ids) (c.index.ensures ∙ ap (λ ps. get_or ps c.in-Some.at c.index.result.now) (sym c.as_slice.ensures.value) ∙ ap (λ i. get_or pins i c.index.result.now) at.0)
    ∙ ap (has c.args.id) (sym (ids-at_place n pins c.index.result.now at.1))
    ∙ ap (λ ps. has c.args.id (ids_at ps n)) (c.as_slice.ensures.value ∙ c.self.view_is)
    ∙ ap (λ k. has c.args.id (ids_at c.args.self.now k)) c.no.view_is

pub returns-in-None : goal.returns-in-None
returns-in-None c =
    let n : ℕ = c.no.inside.number in
    let pins : List Listed = c.as_slice.result.now in
    sym (ap (has c.args.id) (ids-at_none n pins (place-none n pins c.place.result c.place.ensures c.in-None.is)))
    ∙ ap (λ ps. has c.args.id (ids_at ps n)) (c.as_slice.ensures.value ∙ c.self.view_is)
    ∙ ap (λ k. has c.args.id (ids_at c.args.self.now k)) c.no.view_is

use Rattle.std.proofs.Common.{◌≡◌, ◌∙◌, true, false, List, None, sym, subst}
use Rattle.std.specs.Prelude.{is_some}
use Rattle.workload.specs.declared.place.FillPlace.{FillPlace}
use Rattle.workload.specs.Places.{place_at}
use Rattle.workload.proofs.Placing.{there, nowhere, placed_new}
use Rattle.workload.proofs.listing.empty.Goals as goal

pub give-requires : goal.give-requires
give-requires c =
    let found : is_some c.index_of.result ≡ true = cc in
    let same : c.as_slice.result.now ≡ c.as_mut_slice.result.now = c.as_slice.ensures.value ∙ sym c.as_mut_slice.ensures.value in
    subst (λ (l : List FillPlace). is_some (place_at l c.args.name.now) ≡ true) same (there c.as_slice.result.now c.args.name.now c.index_of.result c.index_of.ensures found)

pub returns-clause-ok : goal.returns-clause-ok
returns-clause-ok c =
    let missing : is_some c.index_of.result ≡ false = cc in
    let none : place_at c.args.places.now.items c.args.name.now ≡ None = subst (λ (l : List FillPlace). place_at l c.args.name.now ≡ None) c.as_slice.ensures.value (nowhere c.as_slice.result.now c.args.name.now c.index_of.result c.index_of.ensures missing) in
    placed_new c.args.places.now.items c.push.new.self.items c.args.name.now c.from_string.result c.from_vec.result none (c.from_string.ensures ∙ c.in_ok-to_string.ensures.ok) (c.from_vec.ensures ∙ c.new-2.ensures.items) c.in_ok-push.ensures.items

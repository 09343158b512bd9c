use Rattle.std.proofs.Common.{◌≡◌, ◌≢◌, ◌∙◌, ◌<◌, ℕ, List, length, sym, ap, arith, true, false, Bool}
use Rattle.std.specs.Str.{bytes_eq}
use Rattle.vault_types.proofs.FillLemmas.{bytes_eq-same, same_bytes}
use Rattle.workload.proofs.Placing.{searched_more, found_here, front_is}
use Rattle.workload.proofs.listing.index_of.Goals as goal

pub returns-then-eq : goal.returns-then-eq
returns-then-eq c =
    let within : c.loop-i.i < length c.args.places.now = omega (arith, c.loop-i-test.true) in
    let same : c.index-places-i.result.name ≡ c.args.name.now = sym c.as_str.ensures ∙ same_bytes c.as_str.result.now c.args.name.now (sym c.eq.ensures ∙ c.if-eq.true) in
    (within, found_here c.args.places.now c.args.name.now c.loop-i.i c.index-places-i.result (front_is c.args.places.now c.loop-i.i c.index-places-i.result c.index-places-i.is within) same c.loop-i.invariant)

pub loop-i-preserved : goal.loop-i-preserved
loop-i-preserved c =
    let within : c.loop-i.i < length c.args.places.now = omega (arith, c.loop-i-test.true) in
    let other : c.index-places-i.result.name ≢ c.args.name.now = λ same. not_both (bytes_eq c.as_str.result.now c.args.name.now) (ap (λ (n : List ℕ). bytes_eq n c.args.name.now) (c.as_str.ensures ∙ same) ∙ bytes_eq-same c.args.name.now) (sym c.eq.ensures ∙ c.if-eq.false) in
    searched_more c.args.places.now c.args.name.now c.loop-i.i c.index-places-i.result (front_is c.args.places.now c.loop-i.i c.index-places-i.result c.index-places-i.is within) other c.loop-i.invariant
  where
    not_both : (b : Bool) → b ≡ true → b ≡ false → ⊥
    not_both b is other = cc

use Rattle.std.proofs.Common.{◌≡◌, ◌||◌, ℕ, Bool, true, false, cond, take, get_or, sym, ap, ◌∙◌, arith}
use Rattle.std.specs.Prelude.{nat_eq}
use Rattle.std.proofs.lemmas.Bool.Decides.{nat_tests}
use Rattle.std.proofs.lemmas.List.Folds.{list_any_more}
use Rattle.vault_types.specs.Lists.{has}
use Rattle.restore_pins.proofs.pin.Pin.new.Goals as goal

-- a number is in the list with one more where it is that one, or was there
with_one : (i n : ℕ) (b : Bool) → cond (nat_eq n i) true b ≡ (b || nat_eq i n)
with_one i n true = grind (arith, nat_tests)
with_one i n false = grind (arith, nat_tests)

pub loop-id-preserved : goal.loop-id-preserved
loop-id-preserved c = λ i.
    let ids = c.deref-id-items.result.now in
    c.in_ok-insert.ensures.updates.0 i
    ∙ ap (cond (nat_eq (get_or ids c.loop-id.id-index 0) i) true) (c.loop-id.invariant i)
    ∙ with_one i (get_or ids c.loop-id.id-index 0) (has i (take c.loop-id.id-index ids))
    ∙ sym (list_any_more (nat_eq i) ids c.loop-id.id-index 0 c.loop-id-test.true)

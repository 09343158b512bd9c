use Rattle.std.proofs.Common.{◌≡◌, ◌<◌, ◌^◌, ◌∙◌, Some, ap, arith, sym, ℕ}
use Rattle.vault_types.specs.Words as spec
use Rattle.script_words.proofs.Numbers.{number_none, number_some}
use Rattle.script_words.proofs.values.number.Goals as goal

pub returns-then-not-has_no_spare_zero : goal.returns-then-not-has_no_spare_zero
returns-then-not-has_no_spare_zero c = number_none c.args.text.now (sym c.has_no_spare_zero.ensures ∙ c.if-not-has_no_spare_zero.true)

pub returns : goal.returns
returns c =
    let v = c.args.text.now in
    let small : spec.value_of_digits v < 2 ^ 64 = omega arith in
    let same : spec.value_of_digits v ≡ c.value_of_digits-value.result = omega arith in
    number_some v (sym c.has_no_spare_zero.ensures ∙ c.if-not-has_no_spare_zero.false)
    (sym c.are_digits.ensures ∙ c.if-not-are_digits.false) small
    ∙ ap (λ (n : ℕ). Some n) same

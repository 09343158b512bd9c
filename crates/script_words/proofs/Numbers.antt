-- Decimal numbers without a leading zero.
use Rattle.std.proofs.Common.{◌≡◌, ◌<◌, ◌+◌, ◌*◌, ◌-◌, ◌^◌, inl, inr, ℕ, List, [], ◌∷◌, Bool, true, false, not, ◌&&◌, ◌||◌, nat_lt, nat_le, ◌==◌, length, get_or, fold, refl, arith, rules, sym, ◌∙◌, subst, if◌then◌else◌, Some, None, decimal}
use Rattle.std.specs.List.{list_all}
use Rattle.std.specs.Char.{is_ascii_digit}
use Rattle.std.specs.Cmp.Lexicographic.{bytes_decides}
use Rattle.std.proofs.lemmas.Bool.{and_parts, cases_lt, leb-true, lt-ltb, ltb-true, ne_eqb, eqb-true, eq-eqb, false_from_ne_true, false≢true}
use Rattle.std.proofs.lemmas.Fmt.{decimal-digits_value, first_decimal, decimal_nonempty, decimal_digit}
use Rattle.std.proofs.lemmas.Str.Parse.{IsNumeralModel, numerals_by_fold}
use Rattle.vault_types.specs.Words as spec

abbrev read_on : ℕ → List ℕ → ℕ
read_on n v = fold (λ n b. n * 10 + (b - 48)) n v

own : IsNumeralModel (λ ds. list_all is_ascii_digit ds ≡ true) (read_on 0)
own = numerals_by_fold _ (search rules) read_on (search rules)

-- a text has a first byte, and no leading zero
abbrev has_no_spare_zero : List ℕ → Bool
has_no_spare_zero v = nat_lt 0 (length v) && (not (get_or v 0 0 == 48) || length v == 1)

no_spare_zero_one : (n : ℕ) → n ≡ 0 → has_no_spare_zero (decimal n) ≡ true
no_spare_zero_one n e = subst (λ (m : ℕ). has_no_spare_zero (decimal m) ≡ true) (sym e) (let d : decimal 0 ≡ 48 ∷ [] = decimal_digit 0 (omega arith) in subst (λ (v : List ℕ). has_no_spare_zero v ≡ true) (sym d) refl)

no_spare_zero_more : (v : List ℕ) → 0 < length v → 48 < get_or v 0 0 → has_no_spare_zero v ≡ true
no_spare_zero_more v l f = rw (lt-ltb 0 (length v) l, ne_eqb (get_or v 0 0) 48 (λ e. omega arith)) refl

no_spare_zero_decimal : (n : ℕ) → n < 2 ^ 64 → has_no_spare_zero (decimal n) ≡ true
no_spare_zero_decimal n small = elim (cases_lt 0 n) [ inl h ↦ no_spare_zero_more (decimal n) (decimal_nonempty n small) (first_decimal n h small) | inr h ↦ no_spare_zero_one n (omega arith) ]

number_cases : (v : List ℕ) (t : Bool) (n : ℕ) → (t ≡ true → n < 2 ^ 64 → ⊥) → spec.in_range 0 18446744073709551615 (if t then Some n else None) ≡ false
number_cases v true n h = false_from_ne_true _ (λ e. h refl (omega (arith, leb-true n 18446744073709551615 (and_parts (nat_le 0 n) (nat_le n 18446744073709551615) e).1)))
number_cases v false n h = refl

pub number_none : (v : List ℕ) → has_no_spare_zero v ≡ false → spec.in_range 0 18446744073709551615 (spec.number v) ≡ false
number_none v e = number_cases v _ (spec.value_of_digits v) (λ t small.
    let same = (bytes_decides (decimal (spec.value_of_digits v)) v).0 (and_parts (list_all is_ascii_digit v) _ t).1 in
    false≢true (sym e ∙ subst (λ (w : List ℕ). has_no_spare_zero w ≡ true) same (no_spare_zero_decimal (spec.value_of_digits v) small)))

at_least_one : (v : List ℕ) → has_no_spare_zero v ≡ true → 0 < length v
at_least_one v e = ltb-true 0 (length v) (and_parts (nat_lt 0 (length v)) _ e).0

one_if_zero : (v : List ℕ) → has_no_spare_zero v ≡ true → get_or v 0 0 ≡ 48 → length v ≡ 1
one_if_zero v e z =
    let h = (and_parts (nat_lt 0 (length v)) (not (get_or v 0 0 == 48) || length v == 1) e).1 in
    let g : (length v == 1) ≡ true = rw (eq-eqb (get_or v 0 0) 48 z) at h in
    eqb-true (length v) 1 g

pub number_some : (v : List ℕ) → has_no_spare_zero v ≡ true → list_all is_ascii_digit v ≡ true → spec.value_of_digits v < 2 ^ 64
    → spec.number v ≡ Some (spec.value_of_digits v)
number_some v e d small =
    let same = decimal-digits_value own v d (at_least_one v e) (one_if_zero v e) small in
    let t = (bytes_decides (decimal (spec.value_of_digits v)) v).1 same in
    rw (d, t) refl

-- The pin of a number: where it stands, and what is left without it.
use Rattle.std.proofs.Common.{◌≡◌, ℕ, suc, ◌+◌, ◌<◌, ◌≤◌, Bool, true, false, cond, not, ◌||◌, List, [], ◌∷◌, ◌++◌, get_or, length, refl, sym, ap, ◌∙◌, subst, arith, Option, Some, None}
use Rattle.std.specs.Prelude.{nat_eq, nat_lt, ◌==◌, position}
use Rattle.std.specs.List.{AllByRecursion, IsDistinct, list_any, position_or_len, remove}
use Rattle.std.specs.Cmp.{nat_eq_equiv}
use Rattle.std.proofs.lemmas.Bool.Decides.{nat_tests}
use Rattle.std.proofs.lemmas.List.{map-append}
use Rattle.std.proofs.lemmas.List.Folds.{list_any-append}
use Rattle.std.proofs.lemmas.Map.Keys.{IsDistinct-push, IsDistinct-head, IsDistinct-tail, IsDistinct-cons}
use Rattle.vault_types.specs.Lists.{has}
use Rattle.restore_pins.specs.Pins.{Listed, numbers, listed_ids, ids_at, without_pin}
use Rattle.restore_pins.specs.Numbers.{ArePinNumbers}

-- numbers

pub numbered-none : ArePinNumbers 0 []
unfolding IsDistinct
numbered-none = record { below = tt; differ = tt }

pub fresh : (next : ℕ) (pins : List Listed) → ArePinNumbers next pins → has next (numbers pins) ≡ false
fresh next pins h = above (numbers pins) h.below
  where
    above : (ns : List ℕ) → AllByRecursion (λ n. n < next) ns → has next ns ≡ false
    above [] i = refl
    above (n ∷ ns) i = let other : nat_eq next n ≡ false = grind (arith, nat_tests, i.0) in ap (λ b. b || has next ns) other ∙ above ns i.1

pub numbered-more : (next : ℕ) (pins : List Listed) (p : Listed) → ArePinNumbers next pins → p.number ≡ next → ArePinNumbers (next + 1) (pins ++ p ∷ [])
numbered-more next pins p h e = record {
  below = subst (AllByRecursion (λ n. n < next + 1)) (sym (map-append (λ q. q.number) pins (p ∷ []))) (more (numbers pins) h.below);
  differ = subst (IsDistinct nat_eq) (sym (map-append (λ q. q.number) pins (p ∷ []))) (IsDistinct-push nat_eq_equiv (numbers pins) p.number h.differ (ap (λ n. has n (numbers pins)) e ∙ fresh next pins h));
}
  where
    more : (ns : List ℕ) → AllByRecursion (λ n. n < next) ns → AllByRecursion (λ n. n < next + 1) (ns ++ p.number ∷ [])
    more [] i = (omega (arith, e), tt)
    more (n ∷ ns) i = (omega (arith, i.0), more ns i.1)

-- the place of a number

abbrev pub place_of : ℕ → List Listed → ℕ
place_of n pins = position_or_len (λ p. nat_eq p.number n) pins

pub place-some : (n : ℕ) (pins : List Listed) (r : Option ℕ) (i : ℕ) → r ≡ position (λ p. nat_eq p.number n) pins → r ≡ Some i → (i ≡ place_of n pins) × (place_of n pins < length pins)
place-some n pins r i e f = step (nat_lt (place_of n pins) (length pins)) refl (sym e ∙ f)
  where
    step : (b : Bool) → nat_lt (place_of n pins) (length pins) ≡ b → cond b (Some (place_of n pins)) None ≡ Some i → (i ≡ place_of n pins) × (place_of n pins < length pins)
    step true t g = (cc, grind (arith, nat_tests))
    step false t g = absurd (cc)

pub place-none : (n : ℕ) (pins : List Listed) (r : Option ℕ) → r ≡ position (λ p. nat_eq p.number n) pins → r ≡ None → length pins ≤ place_of n pins
place-none n pins r e f = step (nat_lt (place_of n pins) (length pins)) refl (sym e ∙ f)
  where
    step : (b : Bool) → nat_lt (place_of n pins) (length pins) ≡ b → cond b (Some (place_of n pins)) None ≡ None → length pins ≤ place_of n pins
    step true t g = absurd (cc)
    step false t g = grind (arith, nat_tests)

place-cons : (n : ℕ) (p : Listed) (pins : List Listed) → place_of n (p ∷ pins) ≡ cond (nat_eq p.number n) 0 (1 + place_of n pins)
place-cons n p pins = step (nat_eq p.number n)
  where
    step : (b : Bool) → cond (not b) (1 + place_of n pins) 0 ≡ cond b 0 (1 + place_of n pins)
    step true = refl
    step false = refl

pub some_place : (n : ℕ) (pins : List Listed) → has n (numbers pins) ≡ true → place_of n pins < length pins
some_place n [] h = let clash : false ≡ true = h in absurd (cc)
some_place n (p ∷ pins) h = step (nat_eq p.number n) (nat_eq n p.number) (grind (arith, nat_tests)) (place-cons n p pins) h (λ f. some_place n pins f)
  where
    step : (b d : Bool) → b ≡ d → place_of n (p ∷ pins) ≡ cond b 0 (1 + place_of n pins) → (d || has n (numbers pins)) ≡ true → (has n (numbers pins) ≡ true → place_of n pins < length pins) → place_of n (p ∷ pins) < length (p ∷ pins)
    step true d k e f g = omega arith
    step false true k e f g = absurd (cc)
    step false false k e f g = omega (arith, g f)

-- what stands there

pub ids-at_place : (n : ℕ) (pins : List Listed) (d : Listed) → place_of n pins < length pins → ids_at pins n ≡ (get_or pins (place_of n pins) d).ids
ids-at_place n [] d l = absurd (omega arith)
ids-at_place n (p ∷ pins) d l =
    step (nat_eq p.number n) (place-cons n p pins) (λ f. ids-at_place n pins d f)
    ∙ sym (ap (λ i. (get_or (p ∷ pins) i d).ids) (place-cons n p pins))
  where
    step : (b : Bool) → place_of n (p ∷ pins) ≡ cond b 0 (1 + place_of n pins) → (place_of n pins < length pins → ids_at pins n ≡ (get_or pins (place_of n pins) d).ids)
        → cond b p.ids (ids_at pins n) ≡ (get_or (p ∷ pins) (cond b 0 (1 + place_of n pins)) d).ids
    step true e g = refl
    step false e g =
        let next : 1 + place_of n pins ≡ suc (place_of n pins) = omega arith in
        g (omega (arith, e, l)) ∙ sym (ap (λ i. (get_or (p ∷ pins) i d).ids) next)

pub ids-at_none : (n : ℕ) (pins : List Listed) → length pins ≤ place_of n pins → ids_at pins n ≡ []
ids-at_none n [] l = refl
ids-at_none n (p ∷ pins) l = step (nat_eq p.number n) (place-cons n p pins) (λ f. ids-at_none n pins f)
  where
    step : (b : Bool) → place_of n (p ∷ pins) ≡ cond b 0 (1 + place_of n pins) → (length pins ≤ place_of n pins → ids_at pins n ≡ []) → cond b p.ids (ids_at pins n) ≡ []
    step true e g = absurd (omega (arith, e, l))
    step false e g = g (omega (arith, e, l))

-- what is left without it

others : (n : ℕ) (pins : List Listed) → AllByRecursion (λ k. nat_eq n k ≡ false) (numbers pins) → without_pin n pins ≡ pins
others n [] h = refl
others n (p ∷ pins) h = step (p.number == n) (grind (arith, nat_tests, h.0)) (others n pins h.1)
  where
    step : (b : Bool) → b ≡ false → without_pin n pins ≡ pins → cond (not b) (p ∷ without_pin n pins) (without_pin n pins) ≡ p ∷ pins
    step true e i = cc
    step false e i = ap (λ ps. p ∷ ps) i

pub removed : (n : ℕ) (pins : List Listed) → IsDistinct nat_eq (numbers pins) → place_of n pins < length pins → remove pins (place_of n pins) ≡ without_pin n pins
removed n [] d l = absurd (omega arith)
removed n (p ∷ pins) d l =
    ap (remove (p ∷ pins)) (place-cons n p pins) ∙ step (nat_eq p.number n) refl (place-cons n p pins) (λ f. removed n pins (IsDistinct-tail nat_eq p.number (numbers pins) d) f)
  where
    step : (b : Bool) → nat_eq p.number n ≡ b → place_of n (p ∷ pins) ≡ cond b 0 (1 + place_of n pins) → (place_of n pins < length pins → remove pins (place_of n pins) ≡ without_pin n pins)
        → remove (p ∷ pins) (cond b 0 (1 + place_of n pins)) ≡ cond (not b) (p ∷ without_pin n pins) (without_pin n pins)
    step true t e g =
        let same : p.number ≡ n = grind (arith, nat_tests) in
        sym (others n pins (subst (λ k. AllByRecursion (λ m. nat_eq k m ≡ false) (numbers pins)) same (IsDistinct-head nat_eq p.number (numbers pins) d)))
    step false t e g =
        let next : 1 + place_of n pins ≡ suc (place_of n pins) = omega arith in
        ap (remove (p ∷ pins)) next ∙ ap (λ ps. p ∷ ps) (g (omega (arith, e, l)))

pub numbered-without : (next n : ℕ) (pins : List Listed) → ArePinNumbers next pins → ArePinNumbers next (without_pin n pins)
numbered-without next n pins h = record { below = less pins h.below; differ = apart pins h.differ }
  where
    kept : (Q : ℕ → Type 0) (ps : List Listed) → AllByRecursion Q (numbers ps) → AllByRecursion Q (numbers (without_pin n ps))
    kept Q [] i = tt
    kept Q (p ∷ ps) i = step (p.number == n) (kept Q ps i.1)
      where
        step : (b : Bool) → AllByRecursion Q (numbers (without_pin n ps)) → AllByRecursion Q (numbers (cond (not b) (p ∷ without_pin n ps) (without_pin n ps)))
        step true j = j
        step false j = (i.0, j)

    less : (ps : List Listed) → AllByRecursion (λ m. m < next) (numbers ps) → AllByRecursion (λ m. m < next) (numbers (without_pin n ps))
    less ps i = kept (λ m. m < next) ps i

    apart : (ps : List Listed) → IsDistinct nat_eq (numbers ps) → IsDistinct nat_eq (numbers (without_pin n ps))
    apart [] i = i
    apart (p ∷ ps) i = step (p.number == n) (apart ps (IsDistinct-tail nat_eq p.number (numbers ps) i))
      where
        step : (b : Bool) → IsDistinct nat_eq (numbers (without_pin n ps)) → IsDistinct nat_eq (numbers (cond (not b) (p ∷ without_pin n ps) (without_pin n ps)))
        step true j = j
        step false j = IsDistinct-cons nat_eq p.number (numbers (without_pin n ps)) (kept (λ m. nat_eq p.number m ≡ false) ps (IsDistinct-head nat_eq p.number (numbers ps) i)) j

-- the ids that the pins list

pub has-listed_ids : (c : ℕ) (pins : List Listed) → list_any (λ p. has c p.ids) pins ≡ has c (listed_ids pins)
has-listed_ids c [] = refl
has-listed_ids c (p ∷ pins) = ap (λ b. has c p.ids || b) (has-listed_ids c pins) ∙ sym (list_any-append (nat_eq c) p.ids (listed_ids pins))

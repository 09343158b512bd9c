-- Numbers of pins, each once: one more, and one less.
use Rattle.std.proofs.Common.{◌≡◌, ◌≢◌, ℕ, Bool, true, false, not, cond, ◌||◌, List, [], ◌∷◌, ◌++◌, refl, sym, ◌∙◌, ap, subst, arith}
use Rattle.std.specs.Prelude.{filter, nat_eq, ◌==◌}
use Rattle.std.specs.List.{AllByRecursion}
use Rattle.std.proofs.lemmas.Bool.Decides.{nat_tests}
use Rattle.std.proofs.lemmas.List.{append-nil}
use Rattle.vault_types.specs.Lists.{has}
use Rattle.restore_pins.specs.Pins.{Listed, numbers, without_pin}
use Rattle.state_laws.proofs.Members.{clash}
use Rattle.commit_laws.proofs.Listing.{same_number, itself}
use Rattle.beside_laws.proofs.Apart.{mid_less, mid_one, mid_more}
use Rattle.beside_steps.specs.Holding.{AreApart}

or_first : (a b : Bool) → (a || b) ≡ false → a ≡ false
or_first true b h = h
or_first false b h = refl

or_second : (a b : Bool) → (a || b) ≡ false → b ≡ false
or_second true b h = absurd (let e : true ≡ false = h in cc)
or_second false b h = h

other_than : (n m : ℕ) → nat_eq n m ≡ false → n ≢ m
other_than n m apart same = clash (nat_eq n m) (subst (λ (k : ℕ). nat_eq n k ≡ true) same (itself n)) apart

swapped : (n m : ℕ) → nat_eq m n ≡ false → nat_eq n m ≡ false
swapped n m apart = at (nat_eq n m) refl
  where
    at : (b : Bool) → nat_eq n m ≡ b → nat_eq n m ≡ false
    at false is = is
    at true is = clash (nat_eq m n) (subst (λ (k : ℕ). nat_eq k n ≡ true) (sym (same_number n m is)) (itself n)) apart

-- one more, behind the others
pub apart_more : (ns : List ℕ) (m : ℕ) → AreApart ns → has m ns ≡ false → AreApart (ns ++ m ∷ [])
apart_more [] m apart fresh = (refl, tt)
apart_more (n ∷ ns) m apart fresh = (
  mid_more (nat_eq n) ns m [] (subst (λ (ks : List ℕ). has n ks ≡ false) (sym (append-nil ns)) apart.0) (swapped n m (or_first (nat_eq m n) (has m ns) fresh)),
  apart_more ns m apart.1 (or_second (nat_eq m n) (has m ns) fresh),
)

abbrev pub AreOthers : ℕ → List ℕ → Type 0
AreOthers m ns = AllByRecursion (λ n. n ≢ m) ns

none_is : (m : ℕ) (ns : List ℕ) → has m ns ≡ false → AreOthers m ns
none_is m [] fresh = tt
none_is m (n ∷ ns) fresh = (other_than n m (swapped n m (or_first (nat_eq m n) (has m ns) fresh)), none_is m ns (or_second (nat_eq m n) (has m ns) fresh))

-- one less: the others stay apart, and none of them is that one
pub apart_less : (A : List ℕ) (m : ℕ) (B : List ℕ) → AreApart (A ++ m ∷ B) → AreApart (A ++ B) × AreOthers m A × AreOthers m B
apart_less [] m B apart = (apart.1, tt, none_is m B apart.0)
apart_less (a ∷ A) m B apart =
    let rest = apart_less A m B apart.1 in
    ((mid_less (nat_eq a) A m B apart.0, rest.0), (other_than a m (mid_one (nat_eq a) A m B apart.0), rest.1), rest.2)

abbrev others_of : ℕ → List ℕ → List ℕ
others_of m ns = filter (λ k. not (k == m)) ns

passed : (m n : ℕ) (ns ks : List ℕ) → n ≢ m → others_of m ns ≡ ks → others_of m (n ∷ ns) ≡ n ∷ ks
passed m n ns ks other is = step (n == m) (λ e. other (let same : n ≡ m = grind (arith, nat_tests) in same))
  where
    step : (b : Bool) → (b ≡ true → ⊥) → cond (not b) (n ∷ others_of m ns) (others_of m ns) ≡ n ∷ ks
    step true none = absurd (none refl)
    step false none = ap (λ (js : List ℕ). n ∷ js) is

all_passed : (m : ℕ) (ns : List ℕ) → AreOthers m ns → others_of m ns ≡ ns
all_passed m [] others = refl
all_passed m (n ∷ ns) others = passed m n ns ns others.0 (all_passed m ns others.1)

one_dropped : (m : ℕ) (B : List ℕ) → others_of m (m ∷ B) ≡ others_of m B
one_dropped m B = step (m == m) (grind (arith, nat_tests))
  where
    step : (b : Bool) → b ≡ true → cond (not b) (m ∷ others_of m B) (others_of m B) ≡ others_of m B
    step true is = refl
    step false is = absurd (let e : false ≡ true = is in cc)

without_one : (A : List ℕ) (m : ℕ) (B : List ℕ) → AreOthers m A → AreOthers m B → others_of m (A ++ m ∷ B) ≡ A ++ B
without_one [] m B front back = one_dropped m B ∙ all_passed m B back
without_one (a ∷ A) m B front back = passed m a (A ++ m ∷ B) (A ++ B) front.0 (without_one A m B front.1 back)

numbers_without : (m : ℕ) (pins : List Listed) → numbers (without_pin m pins) ≡ others_of m (numbers pins)
numbers_without m [] = refl
numbers_without m (p ∷ pins) = step (p.number == m) (numbers_without m pins)
  where
    step : (b : Bool) → numbers (without_pin m pins) ≡ others_of m (numbers pins)
        → numbers (cond (not b) (p ∷ without_pin m pins) (without_pin m pins)) ≡ cond (not b) (p.number ∷ others_of m (numbers pins)) (others_of m (numbers pins))
    step true is = is
    step false is = ap (λ (ns : List ℕ). p.number ∷ ns) is

-- the numbers of the pins that are left
pub numbers_left : (A : List ℕ) (m : ℕ) (B : List ℕ) (pins : List Listed) → numbers pins ≡ A ++ m ∷ B → AreOthers m A → AreOthers m B → numbers (without_pin m pins) ≡ A ++ B
numbers_left A m B pins is front back = numbers_without m pins ∙ ap (others_of m) is ∙ without_one A m B front back

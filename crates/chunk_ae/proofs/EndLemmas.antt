-- Ranges of which no number passes a test, or the last alone.
use Rattle.std.proofs.Common.{◌≡◌, ℕ, zero, suc, ◌+◌, ◌<◌, ◌≤◌, ◌==◌, Bool, true, false, cond, ◌&&◌, refl, ap, ◌∙◌, subst, arith, Some, None}
use Rattle.std.specs.Prelude.{find}
use Rattle.std.specs.List.{list_all, range_with_len}
use Rattle.std.proofs.lemmas.Bool.Decides.{nat_tests}

-- a range in which no number passes
pub find-none : (f : ℕ → Bool) (a n : ℕ) → ((p : ℕ) → a ≤ p → p < a + n → f p ≡ false) → find f (range_with_len a n) ≡ None
find-none f a zero h = refl
find-none f a (suc n) h =
    ap (λ b. cond b (Some a) (find f (range_with_len (a + 1) n))) (h a (omega arith) (omega arith))
    ∙ find-none f (a + 1) n (λ p i j. h p (omega arith) (omega arith))

-- a range of which the last number alone passes
pub find-last : (f : ℕ → Bool) (a n : ℕ) → ((p : ℕ) → a ≤ p → p < a + n → f p ≡ false) → f (a + n) ≡ true → find f (range_with_len a (suc n)) ≡ Some (a + n)
find-last f a zero h e =
    let at : f a ≡ true = (let P : ℕ → Type 0 = λ k. f k ≡ true in subst P (let z : a + 0 ≡ a = omega arith in z) e) in
    ap (λ b. cond b (Some a) None) at ∙ ap Some (let z : a ≡ a + 0 = omega arith in z)
find-last f a (suc n) h e =
    let P : ℕ → Type 0 = λ k. f k ≡ true in
    ap (λ b. cond b (Some a) (find f (range_with_len (a + 1) (suc n)))) (h a (omega arith) (omega arith))
    ∙ find-last f (a + 1) n (λ p i j. h p (omega arith) (omega arith)) (subst P (let z : a + suc n ≡ a + 1 + n = omega arith in z) e)
    ∙ ap Some (let z : a + 1 + n ≡ a + suc n = omega arith in z)

pub list_all-holds : (f : ℕ → Bool) (a n : ℕ) → ((p : ℕ) → a ≤ p → p < a + n → f p ≡ true) → list_all f (range_with_len a n) ≡ true
list_all-holds f a zero h = refl
list_all-holds f a (suc n) h =
    ap (λ b. b && list_all f (range_with_len (a + 1) n)) (h a (omega arith) (omega arith))
    ∙ list_all-holds f (a + 1) n (λ p i j. h p (omega arith) (omega arith))

pub list_all-fails : (f : ℕ → Bool) (a n q : ℕ) → a ≤ q → q < a + n → f q ≡ false → list_all f (range_with_len a n) ≡ false
list_all-fails f a zero q i j e = absurd (omega arith)
list_all-fails f a (suc n) q i j e = step (a == q) refl (λ less. list_all-fails f (a + 1) n q less (omega arith) e)
  where
    none : (b : Bool) → (b && false) ≡ false
    none true = refl
    none false = refl

    step : (b : Bool) → (a == q) ≡ b → (a + 1 ≤ q → list_all f (range_with_len (a + 1) n) ≡ false) → (f a && list_all f (range_with_len (a + 1) n)) ≡ false
    step true t more =
        let same : q ≡ a = grind (arith, nat_tests) in
        ap (λ b. b && list_all f (range_with_len (a + 1) n)) (let P : ℕ → Type 0 = λ k. f k ≡ false in subst P same e)
    step false t more =
        let apart : a + 1 ≤ q = grind (arith, nat_tests) in
        ap (λ b. f a && b) (more apart) ∙ none (f a)

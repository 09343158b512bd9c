-- How many of some versions have their recipes in the first format.
use Rattle.std.proofs.Common.{◌≡◌, ◌⊎◌, inl, inr, ⊎_elim, ℕ, zero, suc, ◌+◌, ◌≤◌, List, [], ◌∷◌, ◌++◌, Option, Some, None, refl, sym, ap, subst, ◌∙◌, arith, append_assoc}
use Rattle.std.specs.Prelude.{slice_get}
use Rattle.vault_types.specs.State.{State, KeptVersion, recipe_of}
use Rattle.vault_types.specs.Blobs.{recipe_bytes_1, recipe_bytes_2}
use Rattle.vault_types.specs.Shelf.{Blobs, blob_at, recipe_name}
use Rattle.vault_types.specs.Plans.{requests, IsLeast}
use Rattle.vault_types.specs.Script.{row_ids}
use Rattle.vault_types.specs.RecipeForms.{IsSecond}
use Rattle.store_model.specs.Migrating.{IsInFirstFormat, HaveFirst, versions_from}

abbrev blob_or : List ℕ → Option (List ℕ) → List ℕ
blob_or other (Some x) = x
blob_or other None = other

abbrev byte_or : Option ℕ → ℕ
byte_or (Some x) = x
byte_or None = 0

-- no recipe is in both formats
pub first_or_second : (told : Option Blobs) (s v : ℕ) (j k : KeptVersion) → IsInFirstFormat told s v j → IsSecond told s v k → ⊥
first_or_second told s v j k first second =
    let same : recipe_bytes_1 (recipe_of s v j) ≡ recipe_bytes_2 k.sum (recipe_of s v k) = ap (blob_or []) (sym first ∙ second) in
    let digit : 49 ≡ 50 = ap (λ (l : List ℕ). byte_or (slice_get l 3)) same in
    absurd (omega (arith, digit))

-- the fewest loads are one number
pub least_same : (reqs : List ℕ) (slots a b : ℕ) → IsLeast reqs slots a → IsLeast reqs slots b → a ≡ b
least_same reqs slots a b one two =
    let low = one.least two.reached.0 two.reached.1 in
    let high = two.least one.reached.0 one.reached.1 in
    omega (arith, low, high, one.reached.2, two.reached.2)

module _ (told : Option Blobs) (S : State) where
  -- one list behind another
  pub have_append : (xs ys : List (ℕ × ℕ)) (n l m k : ℕ) → HaveFirst told S xs n l → HaveFirst told S ys m k → HaveFirst told S (xs ++ ys) (n + m) (l + k)
  have_append [] ys n l m k one two = subst (λ (a : ℕ). HaveFirst told S ys a (l + k)) (omega (arith, one.0)) (subst (λ (a : ℕ). HaveFirst told S ys m a) (omega (arith, one.1)) two)
  have_append (x ∷ xs) ys n l m k (inl one) two = inl (one.0, have_append xs ys n l m k one.1 two)
  have_append (x ∷ xs) ys n l m k (inr one) two =
      inr (one.0 + m, one.1, one.2 + k, one.3, have_append xs ys one.0 one.2 m k one.4 two, omega (arith, one.5), omega (arith, one.6))

  pub have_split : (xs ys : List (ℕ × ℕ)) (n l : ℕ) → HaveFirst told S (xs ++ ys) n l → (n1 l1 n2 l2 : ℕ) × HaveFirst told S xs n1 l1 × HaveFirst told S ys n2 l2 × (l ≡ l1 + l2)
  have_split [] ys n l have = (0, 0, n, l, (refl, refl), have, omega arith)
  have_split (x ∷ xs) ys n l (inl have) =
      let h = have_split xs ys n l have.1 in
      (h.0, h.1, h.2, h.3, inl (have.0, h.4), h.5, h.6)
  have_split (x ∷ xs) ys n l (inr have) =
      let h = have_split xs ys have.0 have.2 have.4 in
      (h.0 + 1, have.1 + h.1, h.2, h.3, inr (h.0, have.1, h.1, have.3, h.4, refl, refl), h.5, omega (arith, have.6, h.6))

  -- the loads of a list are one number
  pub have_same : (xs : List (ℕ × ℕ)) (n l m k : ℕ) → HaveFirst told S xs n l → HaveFirst told S xs m k → l ≡ k
  have_same [] n l m k one two = one.1 ∙ sym two.1
  have_same (x ∷ xs) n l m k (inl one) (inl two) = have_same xs n l m k one.1 two.1
  have_same (x ∷ xs) n l m k (inl one) (inr two) = absurd (first_or_second told x.0 x.1 two.3.version one.0.0 two.3.first one.0.2)
  have_same (x ∷ xs) n l m k (inr one) (inl two) = absurd (first_or_second told x.0 x.1 one.3.version two.0.0 one.3.first two.0.2)
  have_same (x ∷ xs) n l m k (inr one) (inr two) =
      let rest = have_same xs one.0 one.2 two.0 two.2 one.4 two.4 in
      let least = least_same (requests (row_ids S x.0 x.1)) 16 one.1 two.1 one.3.loads two.3.loads in
      omega (arith, rest, least, one.6, two.6)

  -- the loads of the first of a list are no more than those of all
  pub have_head : (x : ℕ × ℕ) (xs : List (ℕ × ℕ)) (n l : ℕ) → HaveFirst told S (x ∷ xs) n l → (m k : ℕ) × HaveFirst told S (x ∷ []) m k × (k ≤ l)
  have_head x xs n l (inl have) = (0, 0, inl (have.0, (refl, refl)), omega arith)
  have_head x xs n l (inr have) = (1, have.1, inr (0, have.1, 0, have.3, (refl, refl), refl, omega arith), omega (arith, have.6))

-- the same of a version in other blobs, where its recipe is the same
pub have_moved : (a b : Option Blobs) (S : State) (s v n l : ℕ) → blob_at b (recipe_name s v) ≡ blob_at a (recipe_name s v) → HaveFirst a S ((s, v) ∷ []) n l → HaveFirst b S ((s, v) ∷ []) n l
have_moved a b S s v n l same (inl have) = inl ((have.0.0, have.0.1, same ∙ have.0.2), have.1)
have_moved a b S s v n l same (inr have) =
    inr (have.0, have.1, have.2, record { version = have.3.version; kept = have.3.kept; first = same ∙ have.3.first; loads = have.3.loads }, have.4, have.5, have.6)

-- the lists of versions

pub from_goes_on : (s floor i n : ℕ) → i ≤ n → (rest : List (ℕ × ℕ)) × (versions_from s floor n ≡ versions_from s floor i ++ rest)
from_goes_on s floor i zero low = ([], by_zero i low)
  where
    by_zero : (i : ℕ) → i ≤ 0 → versions_from s floor 0 ≡ versions_from s floor i ++ []
    by_zero zero low = refl
    by_zero (suc i) low = absurd (omega (arith, low))
from_goes_on s floor i (suc n) low = by_last (λ below. from_goes_on s floor i n below) (below_or_at i n low)
  where
    below_or_at : (i n : ℕ) → i ≤ suc n → (i ≤ n) ⊎ (i ≡ suc n)
    below_or_at zero n low = inl (omega arith)
    below_or_at (suc i) zero low = inr (omega (arith, low))
    below_or_at (suc i) (suc n) low = ⊎_elim (λ below. inl (omega (arith, below))) (λ at. inr (omega (arith, at))) (below_or_at i n (omega (arith, low)))

    by_last : (i ≤ n → (rest : List (ℕ × ℕ)) × (versions_from s floor n ≡ versions_from s floor i ++ rest)) → (i ≤ n) ⊎ (i ≡ suc n) → (rest : List (ℕ × ℕ)) × (versions_from s floor (suc n) ≡ versions_from s floor i ++ rest)
    by_last earlier (inl below) =
        let h = earlier below in
        (h.0 ++ (s, floor + n) ∷ [], ap (λ (l : List (ℕ × ℕ)). l ++ (s, floor + n) ∷ []) h.1 ∙ append_assoc (versions_from s floor i) h.0 ((s, floor + n) ∷ []))
    by_last earlier (inr at) = ([], ap (λ (k : ℕ). versions_from s floor k) (sym at) ∙ sym (with_none (versions_from s floor i)))
      where
        with_none : (l : List (ℕ × ℕ)) → l ++ [] ≡ l
        with_none [] = refl
        with_none (x ∷ xs) = ap (λ (ys : List (ℕ × ℕ)). x ∷ ys) (with_none xs)

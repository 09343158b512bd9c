-- Lists of numbers: filters, and lists that ascend.
use Rattle.std.proofs.Common.{◌≡◌, ℕ, ◌<◌, Bool, true, false, cond, ◌&&◌, ◌||◌, List, [], ◌∷◌, length, refl, sym, ap, ◌∙◌, arith, nat_cmp, Less}
use Rattle.std.specs.Prelude.{nat_eq, filter}
use Rattle.std.specs.List.{AllByRecursion, IsDistinct}
use Rattle.std.specs.List.Sorted.{IsSorted, IsStrictlySortedBy, IsPermutation}
use Rattle.std.specs.Cmp.{nat_eq_equiv}
use Rattle.std.proofs.lemmas.Bool.Decides.{nat_tests}
use Rattle.std.proofs.lemmas.List.Sorted.{IsNonDecreasingBy-from_sort}
use Rattle.std.proofs.lemmas.Map.Keys.{IsStrictlyIncreasing-from_distinct, sorted_from_strictly_increasing, sorted_head, sorted_tail, IsDistinct-IsPermutation}
use Rattle.std.proofs.lemmas.Map.Made.{length-from_same_keys}
use Rattle.vault_types.specs.Lists.{has, IsAscending}

-- what passes a test, and is in the list

pub has-filter : (k : ℕ) (p : ℕ → Bool) (ns : List ℕ) → has k (filter p ns) ≡ (has k ns && p k)
has-filter k p [] = refl
has-filter k p (n ∷ ns) = step (p n) refl (nat_eq k n) refl (has-filter k p ns)
  where
    both : (a : Bool) → (a && true) ≡ a
    both true = refl
    both false = refl

    none : (a : Bool) → (a && false) ≡ false
    none true = refl
    none false = refl

    step : (b : Bool) → p n ≡ b → (c : Bool) → nat_eq k n ≡ c → has k (filter p ns) ≡ (has k ns && p k) → has k (cond b (n ∷ filter p ns) (filter p ns)) ≡ ((nat_eq k n || has k ns) && p k)
    step true e true t h =
        let same : k ≡ n = grind (arith, nat_tests) in
        let yes : p k ≡ true = ap p same ∙ e in
        ap (λ b. b || has k (filter p ns)) t ∙ sym (ap (λ b. (b || has k ns) && p k) t ∙ yes)
    step true e false t h = ap (λ b. b || has k (filter p ns)) t ∙ h ∙ sym (ap (λ b. (b || has k ns) && p k) t)
    step false e true t h =
        let same : k ≡ n = grind (arith, nat_tests) in
        let no : p k ≡ false = ap p same ∙ e in
        h ∙ ap (λ b. has k ns && b) no ∙ none (has k ns) ∙ sym (ap (λ b. (b || has k ns) && p k) t ∙ no)
    step false e false t h = h ∙ sym (ap (λ b. (b || has k ns) && p k) t)

all-filter : (Q : ℕ → Type 0) (p : ℕ → Bool) (ns : List ℕ) → AllByRecursion Q ns → AllByRecursion Q (filter p ns)
all-filter Q p [] h = tt
all-filter Q p (n ∷ ns) h = step (p n) (all-filter Q p ns h.1)
  where
    step : (b : Bool) → AllByRecursion Q (filter p ns) → AllByRecursion Q (cond b (n ∷ filter p ns) (filter p ns))
    step true i = (h.0, i)
    step false i = i

pub IsAscending-filter : (p : ℕ → Bool) (ns : List ℕ) → IsAscending ns → IsAscending (filter p ns)
IsAscending-filter p [] h = tt
IsAscending-filter p (n ∷ ns) h = step (p n) (IsAscending-filter p ns h.1)
  where
    step : (b : Bool) → IsAscending (filter p ns) → IsAscending (cond b (n ∷ filter p ns) (filter p ns))
    step true i = (all-filter (λ m. n < m) p ns h.0, i)
    step false i = i

-- numbers that are sorted and differ ascend

ascends : (ns : List ℕ) → IsStrictlySortedBy nat_cmp ns → IsAscending ns
ascends [] h = tt
ascends (n ∷ ns) h = (above ns (sorted_head nat_cmp n ns h), ascends ns (sorted_tail nat_cmp n ns h))
  where
    above : (ms : List ℕ) → AllByRecursion (λ m. nat_cmp n m ≡ Less) ms → AllByRecursion (λ m. n < m) ms
    above [] i = tt
    above (m ∷ ms) i = (grind (arith, nat_tests, i.0), above ms i.1)

eq_flips : (x y : ℕ) → nat_eq x y ≡ nat_eq y x
eq_flips x y = grind (arith, nat_tests)

pub ascending_from_sort : (ns ms : List ℕ) → IsDistinct nat_eq ns → IsPermutation ns ms → IsSorted nat_cmp ms → IsAscending ms
ascending_from_sort ns ms d p s =
    ascends ms (sorted_from_strictly_increasing ms
    (IsStrictlyIncreasing-from_distinct ms (IsNonDecreasingBy-from_sort (λ x. x) ms s) (IsDistinct-IsPermutation nat_eq eq_flips ns ms p d)))

pub distinct_from_ascending : (ns : List ℕ) → IsAscending ns → IsDistinct nat_eq ns
unfolding IsDistinct
distinct_from_ascending [] h = tt
distinct_from_ascending (n ∷ ns) h = (apart ns h.0, distinct_from_ascending ns h.1)
  where
    apart : (ms : List ℕ) → AllByRecursion (λ m. n < m) ms → AllByRecursion (λ m. nat_eq n m ≡ false) ms
    apart [] i = tt
    apart (m ∷ ms) i = (grind (arith, nat_tests, i.0), apart ms i.1)

-- two lists without repeats that have the same numbers are of one length
pub same_length : (ns ms : List ℕ) → IsDistinct nat_eq ns → IsAscending ms → ((k : ℕ) → has k ns ≡ has k ms) → length ns ≡ length ms
same_length ns ms d h same = length-from_same_keys nat_eq_equiv ns ms d (distinct_from_ascending ms h) same

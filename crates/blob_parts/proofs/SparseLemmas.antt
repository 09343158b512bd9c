-- A sparse list is no longer than the list of the ids that it is from.
use Rattle.std.proofs.Common.{◌≡◌, ◌≢◌, ℕ, zero, suc, ◌+◌, ◌^◌, ◌<◌, ◌≤◌, Bool, true, false, cond, ◌||◌, List, [], ◌∷◌, length, map, refl, sym, ap, arith}
use Rattle.std.proofs.lemmas.List.{length-map}
use Rattle.std.specs.Prelude.{nat_eq, slice_index_or}
use Rattle.std.specs.List.{AllByRecursion, Contains}
use Rattle.std.proofs.lemmas.Bool.Decides.{nat_tests}
use Rattle.vault_types.specs.declared.Row.{Row}
use Rattle.vault_types.specs.Lists.{has, IsAscending}
use Rattle.vault_types.specs.State.{HasRecipeRules}

or_second : (a b : Bool) → b ≡ true → (a || b) ≡ true
or_second true b e = refl
or_second false b e = e

has_at : (ids : List ℕ) (k n : ℕ) → k < length ids → slice_index_or ids k n ≡ n → has n ids ≡ true
has_at [] k n lt e = absurd (omega arith)
has_at (m ∷ ms) zero n lt e = ap (λ (b : Bool). b || has n ms) (same n m (sym e))
  where
    same : (n m : ℕ) → n ≡ m → nat_eq n m ≡ true
    same n m e = grind (arith, nat_tests)
has_at (m ∷ ms) (suc k) n lt e = or_second (nat_eq n m) (has n ms) (has_at ms k n (omega arith) e)

pub has_contained : (ids : List ℕ) (n : ℕ) → Contains ids n → has n ids ≡ true
has_contained ids n c = has_at ids c.0 n c.1 c.2

-- a list without the first of a number
without : ℕ → List ℕ → List ℕ
without n [] = []
without n (m ∷ ms) = cond (nat_eq n m) ms (m ∷ without n ms)

length-without : (n : ℕ) (ms : List ℕ) → has n ms ≡ true → length (without n ms) + 1 ≡ length ms
unfolding without
length-without n [] e = absurd cc
length-without n (m ∷ ms) e = at (λ h. length-without n ms h) (nat_eq n m) e
  where
    at : (has n ms ≡ true → length (without n ms) + 1 ≡ length ms) → (b : Bool) → (b || has n ms) ≡ true → length (cond b ms (m ∷ without n ms)) + 1 ≡ length (m ∷ ms)
    at more true h = omega arith
    at more false h = omega (arith, more h)

has-without : (k n : ℕ) (ms : List ℕ) → k ≢ n → has k ms ≡ true → has k (without n ms) ≡ true
unfolding without
has-without k n [] other e = e
has-without k n (m ∷ ms) other e = at (λ h. has-without k n ms other h) (nat_eq n m) refl
  where
    dropped : (b : Bool) → nat_eq k m ≡ b → (b || has k ms) ≡ true → nat_eq n m ≡ true → has k ms ≡ true
    dropped true h g f = let same : k ≡ n = grind (arith, nat_tests) in absurd (other same)
    dropped false h g f = g

    kept : (has k ms ≡ true → has k (without n ms) ≡ true) → (b : Bool) → (b || has k ms) ≡ true → (b || has k (without n ms)) ≡ true
    kept more true g = refl
    kept more false g = more g

    at : (has k ms ≡ true → has k (without n ms) ≡ true) → (b : Bool) → nat_eq n m ≡ b → has k (cond b ms (m ∷ without n ms)) ≡ true
    at more true f = dropped (nat_eq k m) refl e f
    at more false f = kept more (nat_eq k m) e

all_without : (n : ℕ) (ids ns : List ℕ) → AllByRecursion (λ m. n < m) ns → AllByRecursion (λ m. has m ids ≡ true) ns → AllByRecursion (λ m. has m (without n ids) ≡ true) ns
all_without n ids [] above each = tt
all_without n ids (m ∷ ns) above each =
    let other : m ≢ n = omega (arith, above.0) in
    (has-without m n ids other each.0, all_without n ids ns above.1 each.1)

no_longer : (ns ids : List ℕ) → IsAscending ns → AllByRecursion (λ m. has m ids ≡ true) ns → length ns ≤ length ids
no_longer [] ids ascending each = omega arith
no_longer (n ∷ ns) ids ascending each =
    omega (arith, no_longer ns (without n ids) ascending.1 (all_without n ids ns ascending.0 each.1), length-without n ids each.0)

all_contained : (ids ns : List ℕ) → AllByRecursion (λ c. Contains ids c) ns → AllByRecursion (λ m. has m ids ≡ true) ns
all_contained ids [] each = tt
all_contained ids (n ∷ ns) each = (has_contained ids n each.0, all_contained ids ns each.1)

-- so its length has four bytes
pub few_sparse : (next : ℕ) (rows : List Row) (sparse : List ℕ) → HasRecipeRules next rows sparse → length sparse < 2 ^ 32
few_sparse next rows sparse rules =
    omega (arith, no_longer sparse (map (λ r. r.id) rows) rules.ascending (all_contained _ sparse rules.used), length-map rows (λ (r : Row). r.id), rules.few)

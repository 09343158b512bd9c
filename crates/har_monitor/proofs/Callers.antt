-- For callers: a list that is made of the ids in their order names each once, and what is so of each sparse list.
use Rattle.std.proofs.Common.{◌≡◌, ℕ, ◌≤◌, ◌*◌, Bool, true, false, cond, ◌||◌, List, [], ◌∷◌, length, map, filter, take, refl, sym, ap, ◌∙◌, subst, arith}
use Rattle.std.specs.Prelude.{nat_eq, nat_lt, sum_by, ◌==◌, ◌&&◌, Contains}
use Rattle.std.specs.List.{AllByRecursion, IsDistinct}
use Rattle.std.proofs.lemmas.Bool.Decides.{nat_tests}
use Rattle.std.proofs.lemmas.List.{length-map, length-take}
use Rattle.std.proofs.lemmas.List.Elements.{All-filter, All-take, All-contains_itself, All-from_recursion, recursion_from_All}
use Rattle.vault_types.specs.declared.Row.{Row}
use Rattle.vault_types.specs.Lists.{has, set_of, with_number, insert_by, sorted_by, fitting, IsAscending}
use Rattle.vault_types.specs.Sparse.{referenced, is_sparse, is_emptier, sparse_ids, sparse}
use Rattle.vault_types.proofs.SetLemmas.{IsAscending-set_of}
use Rattle.har_monitor.specs.Monitor.{Counted, HasSeen, NamesEach, ids_of}
use Rattle.vault_types.proofs.OrderLemmas.{all-sorted_by}
use Rattle.har_monitor.proofs.Ranking.{distinct_by-distinct}

-- where the monitor has seen some rows, payloads for its ids name each of them once
pub names_each : (m : Counted) (seen : List Row) (payloads : List (ℕ × ℕ)) → HasSeen m seen → map (λ p. p.0) payloads ≡ m.ids → NamesEach m.ids payloads
names_each m seen payloads h e = record {
  once = subst (IsDistinct nat_eq) (sym (e ∙ h.ids)) (distinct_by-distinct (map (λ r. r.id) seen));
  same = λ c. ap (has c) e;
}

-- what is so of each number of a list is so of each of its set, and of each that is kept

all-with_number : (Q : ℕ → Type 0) (n : ℕ) (ns : List ℕ) → Q n → AllByRecursion Q ns → AllByRecursion Q (with_number n ns)
all-with_number Q n [] q h = (q, tt)
all-with_number Q n (m ∷ ms) q h = step (nat_lt n m) (nat_eq n m) (all-with_number Q n ms q h.1)
  where
    step : (b c : Bool) → AllByRecursion Q (with_number n ms) → AllByRecursion Q (cond b (n ∷ m ∷ ms) (cond c (m ∷ ms) (m ∷ with_number n ms)))
    step true c i = (q, h)
    step false true i = h
    step false false i = (h.0, i)

all-set_of : (Q : ℕ → Type 0) (ns : List ℕ) → AllByRecursion Q ns → AllByRecursion Q (set_of ns)
all-set_of Q [] h = tt
all-set_of Q (n ∷ ns) h = all-with_number Q n (set_of ns) h.0 (all-set_of Q ns h.1)

all-filter : (Q : ℕ → Type 0) (p : ℕ → Bool) (ns : List ℕ) → AllByRecursion Q ns → AllByRecursion Q (filter p ns)
all-filter Q p ns h = recursion_from_All Q (filter p ns) (All-filter p Q ns (All-from_recursion Q ns h))

all-take : (Q : ℕ → Type 0) (k : ℕ) (ns : List ℕ) → AllByRecursion Q ns → AllByRecursion Q (take k ns)
all-take Q k ns h = recursion_from_All Q (take k ns) (All-take Q k ns (All-from_recursion Q ns h))

-- a fact of each number that a list has is one of each number of the list
all_members : (Q : ℕ → Type 0) (ns : List ℕ) → ((n : ℕ) → has n ns ≡ true → Q n) → AllByRecursion Q ns
all_members Q [] h = tt
all_members Q (n ∷ ns) h =
    let self : nat_eq n n ≡ true = grind (arith, nat_tests) in
    (h n (ap (λ b. b || has n ns) self), all_members Q ns (λ m e. h m (ap (λ b. nat_eq m n || b) e ∙ or_true (nat_eq m n))))
  where
    or_true : (b : Bool) → (b || true) ≡ true
    or_true true = refl
    or_true false = refl

all_sparse : (Q : ℕ → Type 0) (rows : List Row) (payload : ℕ → ℕ) (threshold : ℕ) → AllByRecursion Q (ids_of rows) → AllByRecursion Q (sparse_ids rows payload threshold)
all_sparse Q rows payload threshold h =
    all-sorted_by Q (is_emptier rows payload) (filter (is_sparse rows payload threshold) (set_of (ids_of rows)))
    (all-filter Q (is_sparse rows payload threshold) (set_of (ids_of rows)) (all-set_of Q (ids_of rows) h))

-- a sparse list ascends
pub sparse_ascending : (rows : List Row) (payload : ℕ → ℕ) (threshold limit : ℕ) → IsAscending (sparse rows payload threshold limit)
sparse_ascending rows payload threshold limit =
    IsAscending-set_of (take (fitting (λ c. referenced rows c * 100) (limit * sum_by (λ r. r.len) rows) (sparse_ids rows payload threshold)) (sparse_ids rows payload threshold))

-- a row names each of its ids
pub sparse_used : (rows : List Row) (payload : ℕ → ℕ) (threshold limit : ℕ) → AllByRecursion (λ c. Contains (map (λ r. r.id) rows) c) (sparse rows payload threshold limit)
sparse_used rows payload threshold limit =
    let all : List ℕ = sparse_ids rows payload threshold in
    let many : ℕ = fitting (λ c. referenced rows c * 100) (limit * sum_by (λ r. r.len) rows) all in
    all-set_of (Contains (ids_of rows)) (take many all)
    (all-take (Contains (ids_of rows)) many all
    (all_sparse (Contains (ids_of rows)) rows payload threshold
    (recursion_from_All (Contains (ids_of rows)) (ids_of rows) (All-contains_itself (ids_of rows)))))

-- a sparse list has no more ids than there are rows

few-with_number : (n : ℕ) (ns : List ℕ) → length (with_number n ns) ≤ length (n ∷ ns)
few-with_number n [] = omega arith
few-with_number n (m ∷ ms) = step (nat_lt n m) (nat_eq n m) (few-with_number n ms)
  where
    step : (b c : Bool) → length (with_number n ms) ≤ length (n ∷ ms) → length (cond b (n ∷ m ∷ ms) (cond c (m ∷ ms) (m ∷ with_number n ms))) ≤ length (n ∷ m ∷ ms)
    step true c few = omega arith
    step false true few = omega arith
    step false false few = omega arith

few-set_of : (ns : List ℕ) → length (set_of ns) ≤ length ns
few-set_of [] = omega arith
few-set_of (n ∷ ns) = omega (arith, few-with_number n (set_of ns), few-set_of ns)

few-insert_by : (before : ℕ → ℕ → Bool) (n : ℕ) (ns : List ℕ) → length (insert_by before n ns) ≤ length (n ∷ ns)
few-insert_by before n [] = omega arith
few-insert_by before n (m ∷ ms) = step (before m n) (few-insert_by before n ms)
  where
    step : (b : Bool) → length (insert_by before n ms) ≤ length (n ∷ ms) → length (cond b (m ∷ insert_by before n ms) (n ∷ m ∷ ms)) ≤ length (n ∷ m ∷ ms)
    step true few = omega arith
    step false few = omega arith

few-sorted_by : (before : ℕ → ℕ → Bool) (ns : List ℕ) → length (sorted_by before ns) ≤ length ns
few-sorted_by before [] = omega arith
few-sorted_by before (n ∷ ns) = omega (arith, few-insert_by before n (sorted_by before ns), few-sorted_by before ns)

few-filter : (p : ℕ → Bool) (ns : List ℕ) → length (filter p ns) ≤ length ns
few-filter p [] = omega arith
few-filter p (n ∷ ns) = step (p n) (few-filter p ns)
  where
    step : (b : Bool) → length (filter p ns) ≤ length ns → length (cond b (n ∷ filter p ns) (filter p ns)) ≤ length (n ∷ ns)
    step true few = omega arith
    step false few = omega arith

pub sparse_few : (rows : List Row) (payload : ℕ → ℕ) (threshold limit : ℕ) → length (sparse rows payload threshold limit) ≤ length rows
sparse_few rows payload threshold limit =
    let all : List ℕ = sparse_ids rows payload threshold in
    let many : ℕ = fitting (λ c. referenced rows c * 100) (limit * sum_by (λ r. r.len) rows) all in
    let ids : length (ids_of rows) ≡ length rows = length-map rows (λ r. r.id) in
    let set : length (set_of (ids_of rows)) ≤ length (ids_of rows) = few-set_of (ids_of rows) in
    let kept : length (filter (is_sparse rows payload threshold) (set_of (ids_of rows))) ≤ length (set_of (ids_of rows)) = few-filter (is_sparse rows payload threshold) (set_of (ids_of rows)) in
    let sorted : length all ≤ length (filter (is_sparse rows payload threshold) (set_of (ids_of rows))) = few-sorted_by (is_emptier rows payload) (filter (is_sparse rows payload threshold) (set_of (ids_of rows))) in
    let front : length (take many all) ≤ length all = omega (arith, length-take many all) in
    let last : length (set_of (take many all)) ≤ length (take many all) = few-set_of (take many all) in
    omega arith

-- two tests that agree on the numbers of a list keep the same, and put them in the same order

filter-same : (p q : ℕ → Bool) (ns : List ℕ) → AllByRecursion (λ n. p n ≡ q n) ns → filter p ns ≡ filter q ns
filter-same p q [] h = refl
filter-same p q (n ∷ ns) h = ap (λ b. cond b (n ∷ filter p ns) (filter p ns)) h.0 ∙ ap (λ ms. cond (q n) (n ∷ ms) ms) (filter-same p q ns h.1)

module _ (P : ℕ → Type 0) (one other : ℕ → ℕ → Bool) (agree : (m n : ℕ) → P m → P n → one m n ≡ other m n) where
  insert_by-same : (n : ℕ) (ns : List ℕ) → P n → AllByRecursion P ns → insert_by one n ns ≡ insert_by other n ns
  insert_by-same n [] p h = refl
  insert_by-same n (m ∷ ms) p h =
      ap (λ b. cond b (m ∷ insert_by one n ms) (n ∷ m ∷ ms)) (agree m n h.0 p)
      ∙ ap (λ ks. cond (other m n) (m ∷ ks) (n ∷ m ∷ ms)) (insert_by-same n ms p h.1)

  sorted_by-same : (ns : List ℕ) → AllByRecursion P ns → sorted_by one ns ≡ sorted_by other ns
  sorted_by-same [] h = refl
  sorted_by-same (n ∷ ns) h = insert_by-same n (sorted_by one ns) h.0 (all-sorted_by P one ns h.1) ∙ ap (insert_by other n) (sorted_by-same ns h.1)

emptier-same : (rows : List Row) (one other : ℕ → ℕ) (c d : ℕ) → one c ≡ other c → one d ≡ other d → is_emptier rows one c d ≡ is_emptier rows other c d
emptier-same rows one other c d e f =
    ap (λ n. nat_lt (referenced rows c * one d) (referenced rows d * n) || ((referenced rows c * one d == referenced rows d * n) && nat_lt c d)) e
    ∙ ap (λ n. nat_lt (referenced rows c * n) (referenced rows d * other c) || ((referenced rows c * n == referenced rows d * other c) && nat_lt c d)) f

-- and no length counts but those of the named containers
pub sparse_same : (rows : List Row) (one other : ℕ → ℕ) (threshold limit : ℕ) → ((c : ℕ) → has c (map (λ r. r.id) rows) ≡ true → one c ≡ other c)
    → sparse rows one threshold limit ≡ sparse rows other threshold limit
sparse_same rows one other threshold limit h =
    let alike : ℕ → Type 0 = λ c. one c ≡ other c in
    let set : List ℕ = set_of (ids_of rows) in
    let each : AllByRecursion alike set = all-set_of alike (ids_of rows) (all_members alike (ids_of rows) h) in
    let kept : filter (is_sparse rows one threshold) set ≡ filter (is_sparse rows other threshold) set =
    filter-same (is_sparse rows one threshold) (is_sparse rows other threshold) set (all_alike set each) in
    let ids : sparse_ids rows one threshold ≡ sparse_ids rows other threshold =
    sorted_by-same alike (is_emptier rows one) (is_emptier rows other) (λ c d e f. emptier-same rows one other c d e f) (filter (is_sparse rows one threshold) set) (all-filter alike (is_sparse rows one threshold) set each)
    ∙ ap (sorted_by (is_emptier rows other)) kept in
    ap (λ ns. set_of (take (fitting (λ c. referenced rows c * 100) (limit * sum_by (λ r. r.len) rows) ns) ns)) ids
  where
    all_alike : (ns : List ℕ) → AllByRecursion (λ c. one c ≡ other c) ns → AllByRecursion (λ c. is_sparse rows one threshold c ≡ is_sparse rows other threshold c) ns
    all_alike [] i = tt
    all_alike (n ∷ ns) i = (ap (λ m. nat_lt (referenced rows n * 100) (threshold * m)) i.0, all_alike ns i.1)

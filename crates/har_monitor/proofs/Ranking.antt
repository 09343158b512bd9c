-- The containers of which little is used, sorted, are the sparse ones in the order of the rule.
use Rattle.std.proofs.Common.{◌≡◌, ℕ, zero, suc, ◌+◌, ◌-◌, ◌*◌, ◌<◌, ◌≤◌, Bool, true, false, cond, not, ◌&&◌, ◌||◌, max, List, [], ◌∷◌, map, filter, length, take, get_or, refl, sym, ap, ◌∙◌, subst, arith, add-one, Some, unwrap_or, nat_cmp}
use Rattle.std.specs.Prelude.{nat_eq, nat_lt, nat_le, sum_by, ◌==◌}
use Rattle.std.specs.List.{AllByRecursion, IsDistinct}
use Rattle.std.specs.List.Sorted.{IsPermutation, IsSortedBy, IsSorted}
use Rattle.std.specs.Map.{lookup}
use Rattle.std.proofs.lemmas.Bool.Decides.{nat_tests}
use Rattle.std.proofs.lemmas.List.{take-map}
use Rattle.std.proofs.lemmas.List.Sorted.{sorted_far, IsPermutation-map, list_any-IsPermutation, All-permutation, IsNonDecreasingBy-from_sort}
use Rattle.std.proofs.lemmas.Map.Keys.{IsDistinct-head, IsDistinct-tail, IsDistinct-cons, IsDistinct-from_apart, IsDistinct-IsPermutation}
use Rattle.vault_types.specs.declared.Row.{Row}
use Rattle.vault_types.specs.Lists.{has, set_of, sorted_by, fitting, distinct_by, IsAscending}
use Rattle.vault_types.specs.Sparse.{referenced, is_sparse, is_emptier, sparse_ids, sparse}
use Rattle.vault_types.proofs.SetLemmas.{has-set_of, IsAscending-set_of, ascending_unique}
use Rattle.har_monitor.specs.declared.used.Used.{Used}
use Rattle.har_monitor.specs.Monitor.{Counted, HasSeen, NamesEach, ids_of, listed_length}
use Rattle.har_monitor.specs.Used.{used_of, is_little_used, little_used, goes_first}
use Rattle.vault_types.proofs.OrderLemmas.{IsRank, IsRanked, IsOnce, has-sorted_by, all-sorted_by, ranked-sorted_by, ranked_unique, once-sorted_by, once-set_of}
use Rattle.har_monitor.proofs.Parts.{fewer-way, fewer-apart, fewer-chain, weak_order, not_empty}
use Rattle.har_monitor.proofs.Seeing.{found-sum}

-- by places, and by recursion

all_from_places : {X : Type 0} (Q : X → Type 0) (xs : List X) → ((k : ℕ) (d : X) → k < length xs → Q (get_or xs k d)) → AllByRecursion Q xs
all_from_places Q [] h = tt
all_from_places Q (x ∷ xs) h = (h 0 x (omega arith), all_from_places Q xs (λ k d l. h (suc k) d (omega arith)))

places : {X : Type 0} (Q : X → Type 0) (xs : List X) → AllByRecursion Q xs → (k : ℕ) (d : X) → k < length xs → Q (get_or xs k d)
places Q [] h k d l = absurd (omega arith)
places Q (x ∷ xs) h zero d l = h.0
places Q (x ∷ xs) h (suc k) d l = places Q xs h.1 k d (omega arith)

moved : {X : Type 0} (Q : X → Type 0) (xs ys : List X) → IsPermutation xs ys → AllByRecursion Q xs → AllByRecursion Q ys
moved Q xs ys p h = all_from_places Q ys (All-permutation Q xs ys p (places Q xs h))

abbrev IsInOrder : List Used → Type 0
IsInOrder [] = Unit {0}
IsInOrder (u ∷ us) = AllByRecursion (λ v. goes_first v u ≡ false) us × IsInOrder us

sorted-tail : (u : Used) (us : List Used) → IsSortedBy goes_first (u ∷ us) → IsSortedBy goes_first us
sorted-tail u us h = λ k d low high.
    let next : k + 1 ≡ suc k = add-one k in
    subst (λ n. goes_first (get_or us n d) (get_or us k d) ≡ false) (sym next)
    (let e : goes_first (get_or (u ∷ us) (suc k + 1) d) (get_or (u ∷ us) (suc k) d) ≡ false = h (suc k) d (omega arith) (omega arith) in
    subst (λ n. goes_first (get_or (u ∷ us) n d) (get_or us k d) ≡ false) (add-one (suc k)) e)

in_order : (us : List Used) → IsSortedBy goes_first us → IsInOrder us
in_order [] h = tt
in_order (u ∷ us) h = (
  all_from_places (λ v. goes_first v u ≡ false) us (λ k d l. sorted_far goes_first weak_order (u ∷ us) h 0 (suc k) d (omega arith) (omega arith)),
  in_order us (sorted-tail u us h),
)

-- what is known of each container of which little is used

record IsMeant (seen : List Row) (payload : ℕ → ℕ) (u : Used) : Type 0 where
  pub counted : u.referenced ≡ referenced seen u.id
  pub stored : u.payload ≡ payload u.id

-- each pair has the payload that the list gives

abbrev IsGiven : List (ℕ × ℕ) → ℕ × ℕ → Type 0
IsGiven ps p = listed_length ps p.0 ≡ p.1

given-more : (q : ℕ × ℕ) (qs ps : List (ℕ × ℕ)) → AllByRecursion (λ k. nat_eq q.0 k ≡ false) (map (λ p. p.0) ps) → AllByRecursion (IsGiven qs) ps → AllByRecursion (IsGiven (q ∷ qs)) ps
given-more q qs [] h i = tt
given-more q qs (p ∷ ps) h i =
    let other : nat_eq p.0 q.0 ≡ false = grind (arith, nat_tests, h.0) in
    (ap (λ b. unwrap_or (cond b (Some q.1) (lookup (nat_eq p.0) qs)) 0) other ∙ i.0, given-more q qs ps h.1 i.1)

all_given : (ps : List (ℕ × ℕ)) → IsDistinct nat_eq (map (λ p. p.0) ps) → AllByRecursion (IsGiven ps) ps
all_given [] h = tt
all_given (p ∷ ps) h =
    let self : nat_eq p.0 p.0 ≡ true = grind (arith, nat_tests) in (
      ap (λ b. unwrap_or (cond b (Some p.1) (lookup (nat_eq p.0) ps)) 0) self,
      given-more p ps ps (IsDistinct-head nat_eq p.0 (map (λ p. p.0) ps) h) (all_given ps (IsDistinct-tail nat_eq p.0 (map (λ p. p.0) ps) h)),
    )

all_meant : (m : Counted) (seen : List Row) (payloads ps : List (ℕ × ℕ)) → HasSeen m seen → AllByRecursion (IsGiven payloads) ps → AllByRecursion (IsMeant seen (listed_length payloads)) (map (used_of m.sums) ps)
all_meant m seen payloads [] h i = tt
all_meant m seen payloads (p ∷ ps) h i = (record { counted = found-sum m seen p.0 h; stored = sym i.0 }, all_meant m seen payloads ps h i.1)

all-filter : {X : Type 0} (Q : X → Type 0) (p : X → Bool) (xs : List X) → AllByRecursion Q xs → AllByRecursion Q (filter p xs)
all-filter Q p [] h = tt
all-filter Q p (x ∷ xs) h = step (p x) (all-filter Q p xs h.1)
  where
    step : (b : Bool) → AllByRecursion Q (filter p xs) → AllByRecursion Q (cond b (x ∷ filter p xs) (filter p xs))
    step true i = (h.0, i)
    step false i = i

-- the ids of those of which little is used are the sparse ones

little-sparse : (seen : List Row) (payload : ℕ → ℕ) (threshold : ℕ) (u : Used) → IsMeant seen payload u → is_little_used threshold u ≡ is_sparse seen payload threshold u.id
little-sparse seen payload threshold u h = ap (λ n. nat_lt (n * 100) (threshold * u.payload)) h.counted ∙ ap (λ n. nat_lt (referenced seen u.id * 100) (threshold * n)) h.stored

little-ids : (seen : List Row) (payload : ℕ → ℕ) (threshold : ℕ) (us : List Used) → AllByRecursion (IsMeant seen payload) us
    → map (λ u. u.id) (filter (is_little_used threshold) us) ≡ filter (is_sparse seen payload threshold) (map (λ u. u.id) us)
little-ids seen payload threshold [] h = refl
little-ids seen payload threshold (u ∷ us) h =
    step (is_little_used threshold u) (is_sparse seen payload threshold u.id) (little-sparse seen payload threshold u h.0) (little-ids seen payload threshold us h.1)
  where
    step : (a b : Bool) → a ≡ b → map (λ u. u.id) (filter (is_little_used threshold) us) ≡ filter (is_sparse seen payload threshold) (map (λ u. u.id) us)
        → map (λ (u : Used). u.id) (cond a (u ∷ filter (is_little_used threshold) us) (filter (is_little_used threshold) us)) ≡ cond b (u.id ∷ filter (is_sparse seen payload threshold) (map (λ u. u.id) us)) (filter (is_sparse seen payload threshold) (map (λ u. u.id) us))
    step true true e i = ap (λ ns. u.id ∷ ns) i
    step true false e i = cc
    step false true e i = cc
    step false false e i = i

ids-used : (sums ps : List (ℕ × ℕ)) → map (λ u. u.id) (map (used_of sums) ps) ≡ map (λ p. p.0) ps
ids-used sums [] = refl
ids-used sums (p ∷ ps) = ap (λ ns. p.0 ∷ ns) (ids-used sums ps)

-- members of a filtered list, and of one without repeats

has-filter : (k : ℕ) (p : ℕ → Bool) (ns : List ℕ) → has k (filter p ns) ≡ (has k ns && p k)
has-filter k p [] = refl
has-filter k p (n ∷ ns) = step (p n) refl (nat_eq k n) refl (has-filter k p ns)
  where
    step : (b : Bool) → p n ≡ b → (c : Bool) → nat_eq k n ≡ c → has k (filter p ns) ≡ (has k ns && p k) → has k (cond b (n ∷ filter p ns) (filter p ns)) ≡ ((c || has k ns) && p k)
    step true e true t h =
        let same : k ≡ n = grind (arith, nat_tests) in
        ap (λ b. b || has k (filter p ns)) t ∙ sym (ap p same ∙ e)
    step true e false t h = ap (λ b. b || has k (filter p ns)) t ∙ h
    step false e true t h =
        let same : k ≡ n = grind (arith, nat_tests) in
        let no : p k ≡ false = ap p same ∙ e in
        h ∙ ap (λ b. has k ns && b) no ∙ none (has k ns) ∙ sym no
      where
        none : (b : Bool) → (b && false) ≡ false
        none true = refl
        none false = refl
    step false e false t h = h

once-filter : (p : ℕ → Bool) (ns : List ℕ) → IsOnce ns → IsOnce (filter p ns)
once-filter p [] h = tt
once-filter p (n ∷ ns) h = step (p n) (once-filter p ns h.1)
  where
    step : (b : Bool) → IsOnce (filter p ns) → IsOnce (cond b (n ∷ filter p ns) (filter p ns))
    step true i = (has-filter n p ns ∙ ap (λ b. b && p n) h.0, i)
    step false i = i

once_from_distinct : (ns : List ℕ) → IsDistinct nat_eq ns → IsOnce ns
once_from_distinct [] h = tt
once_from_distinct (n ∷ ns) h = (none ns (IsDistinct-head nat_eq n ns h), once_from_distinct ns (IsDistinct-tail nat_eq n ns h))
  where
    none : (ms : List ℕ) → AllByRecursion (λ m. nat_eq n m ≡ false) ms → has n ms ≡ false
    none [] i = refl
    none (m ∷ ms) i = ap (λ b. b || has n ms) i.0 ∙ none ms i.1

apart_from_once : (n : ℕ) (ks : List ℕ) → has n ks ≡ false → AllByRecursion (λ k. nat_eq n k ≡ false) ks
apart_from_once n [] e = tt
apart_from_once n (k ∷ ks) e = step (nat_eq n k) refl e (λ f. apart_from_once n ks f)
  where
    step : (b : Bool) → nat_eq n k ≡ b → (b || has n ks) ≡ false → (has n ks ≡ false → AllByRecursion (λ k. nat_eq n k ≡ false) ks) → AllByRecursion (λ k. nat_eq n k ≡ false) (k ∷ ks)
    step true t f i = cc
    step false t f i = (t, i f)

distinct_from_once : (ks : List ℕ) → IsOnce ks → IsDistinct nat_eq ks
distinct_from_once [] i = IsDistinct-from_apart nat_eq [] (λ i j d a b. absurd (omega arith))
distinct_from_once (k ∷ ks) i = IsDistinct-cons nat_eq k ks (apart_from_once k ks i.0) (distinct_from_once ks i.1)

once-moved : (ns ms : List ℕ) → IsPermutation ns ms → IsOnce ns → IsOnce ms
once-moved ns ms p h = once_from_distinct ms (IsDistinct-IsPermutation nat_eq flips ns ms p (distinct_from_once ns h))
  where
    flips : (x y : ℕ) → nat_eq x y ≡ nat_eq y x
    flips x y = grind (arith, nat_tests)

has-distinct_by : (k : ℕ) (ns : List ℕ) → has k (distinct_by nat_eq ns) ≡ has k ns
has-distinct_by k [] = refl
has-distinct_by k (n ∷ ns) =
    ap (λ b. nat_eq k n || b) (has-filter k (λ m. not (nat_eq n m)) (distinct_by nat_eq ns) ∙ ap (λ b. b && not (nat_eq n k)) (has-distinct_by k ns))
    ∙ step (nat_eq k n) refl
  where
    kept : (b : Bool) → (b && true) ≡ b
    kept true = refl
    kept false = refl

    step : (b : Bool) → nat_eq k n ≡ b → (b || (has k ns && not (nat_eq n k))) ≡ (b || has k ns)
    step true t = refl
    step false t = let other : nat_eq n k ≡ false = grind (arith, nat_tests) in ap (λ b. has k ns && not b) other ∙ kept (has k ns)

once-distinct_by : (ns : List ℕ) → IsOnce (distinct_by nat_eq ns)
once-distinct_by [] = tt
once-distinct_by (n ∷ ns) =
    let self : nat_eq n n ≡ true = grind (arith, nat_tests) in (
      has-filter n (λ m. not (nat_eq n m)) (distinct_by nat_eq ns) ∙ ap (λ b. has n (distinct_by nat_eq ns) && not b) self ∙ none (has n (distinct_by nat_eq ns)),
      once-filter (λ m. not (nat_eq n m)) (distinct_by nat_eq ns) (once-distinct_by ns),
    )
  where
    none : (b : Bool) → (b && false) ≡ false
    none true = refl
    none false = refl

pub distinct_by-distinct : (ns : List ℕ) → IsDistinct nat_eq (distinct_by nat_eq ns)
distinct_by-distinct ns = distinct_from_once (distinct_by nat_eq ns) (once-distinct_by ns)

-- the order of the rule

rank : (seen : List Row) (payload : ℕ → ℕ) → IsRank (λ c. 1 ≤ payload c) (is_emptier seen payload)
rank seen payload = record {
  one_way = λ x y _ _ h. fewer-way (referenced seen x) (payload x) x (referenced seen y) (payload y) y h;
  chain = λ x y z a b c h i. fewer-chain (referenced seen x) (payload x) x (referenced seen y) (payload y) y (referenced seen z) (payload z) z a b c h i;
  apart = λ x y _ _ h i. fewer-apart (referenced seen x) (payload x) x (referenced seen y) (payload y) y h i;
}

emptier-used : (seen : List Row) (payload : ℕ → ℕ) (u v : Used) → IsMeant seen payload u → IsMeant seen payload v → 1 ≤ payload u.id → 1 ≤ payload v.id → goes_first v u ≡ is_emptier seen payload v.id u.id
emptier-used seen payload u v h i pos-u pos-v =
    let p : max 1 u.payload ≡ payload u.id = ap (max 1) h.stored ∙ omega arith in
    let q : max 1 v.payload ≡ payload v.id = ap (max 1) i.stored ∙ omega arith in
    let m : v.referenced * max 1 u.payload ≡ referenced seen v.id * payload u.id = ap (λ a. a * max 1 u.payload) i.counted ∙ ap (λ a. referenced seen v.id * a) p in
    let n : u.referenced * max 1 v.payload ≡ referenced seen u.id * payload v.id = ap (λ a. a * max 1 v.payload) h.counted ∙ ap (λ a. referenced seen u.id * a) q in
    ap (λ a. nat_lt a (u.referenced * max 1 v.payload) || ((a == (u.referenced * max 1 v.payload)) && nat_lt v.id u.id)) m
    ∙ ap (λ a. nat_lt (referenced seen v.id * payload u.id) a || (((referenced seen v.id * payload u.id) == a) && nat_lt v.id u.id)) n

ranked_ids : (seen : List Row) (payload : ℕ → ℕ) (us : List Used) → AllByRecursion (IsMeant seen payload) us → AllByRecursion (λ c. 1 ≤ payload c) (map (λ u. u.id) us) → IsInOrder us
    → IsRanked (is_emptier seen payload) (map (λ u. u.id) us)
ranked_ids seen payload [] h p i = tt
ranked_ids seen payload (u ∷ us) h p i = (behind us h.1 p.1 i.0, ranked_ids seen payload us h.1 p.1 i.1)
  where
    behind : (vs : List Used) → AllByRecursion (IsMeant seen payload) vs → AllByRecursion (λ c. 1 ≤ payload c) (map (λ v. v.id) vs) → AllByRecursion (λ v. goes_first v u ≡ false) vs
        → AllByRecursion (λ c. is_emptier seen payload c u.id ≡ false) (map (λ v. v.id) vs)
    behind [] a b c = tt
    behind (v ∷ vs) a b c = (sym (emptier-used seen payload u v h.0 a.0 p.0 b.0) ∙ c.0, behind vs a.1 b.1 c.1)

-- sparse containers have a payload
filled : (seen : List Row) (payload : ℕ → ℕ) (threshold : ℕ) (ns : List ℕ) → AllByRecursion (λ c. 1 ≤ payload c) (filter (is_sparse seen payload threshold) ns)
filled seen payload threshold [] = tt
filled seen payload threshold (n ∷ ns) = step (is_sparse seen payload threshold n) refl (filled seen payload threshold ns)
  where
    step : (b : Bool) → is_sparse seen payload threshold n ≡ b → AllByRecursion (λ c. 1 ≤ payload c) (filter (is_sparse seen payload threshold) ns) → AllByRecursion (λ c. 1 ≤ payload c) (cond b (n ∷ filter (is_sparse seen payload threshold) ns) (filter (is_sparse seen payload threshold) ns))
    step true e i = (not_empty (referenced seen n * 100) threshold (payload n) e, i)
    step false e i = i

pub sorted_sparse : (m : Counted) (seen : List Row) (payloads : List (ℕ × ℕ)) (threshold : ℕ) (us : List Used) → HasSeen m seen → NamesEach m.ids payloads
    → IsPermutation (little_used m.sums payloads threshold) us → IsSortedBy goes_first us
    → map (λ u. u.id) us ≡ sparse_ids seen (listed_length payloads) threshold
sorted_sparse m seen payloads threshold us h names same sorted =
    let payload : ℕ → ℕ = listed_length payloads in
    let keys : List ℕ = map (λ p. p.0) payloads in
    let meant : AllByRecursion (IsMeant seen payload) (map (used_of m.sums) payloads) = all_meant m seen payloads payloads h (all_given payloads names.once) in
    let ids : map (λ u. u.id) (little_used m.sums payloads threshold) ≡ filter (is_sparse seen payload threshold) keys =
    little-ids seen payload threshold (map (used_of m.sums) payloads) meant ∙ ap (filter (is_sparse seen payload threshold)) (ids-used m.sums payloads) in
    let moves : IsPermutation (filter (is_sparse seen payload threshold) keys) (map (λ u. u.id) us) =
    subst (λ ns. IsPermutation ns (map (λ u. u.id) us)) ids (IsPermutation-map (λ (u : Used). u.id) (little_used m.sums payloads threshold) us same) in
    let full : AllByRecursion (λ c. 1 ≤ payload c) (map (λ u. u.id) us) =
    moved (λ c. 1 ≤ payload c) (filter (is_sparse seen payload threshold) keys) (map (λ u. u.id) us) moves (filled seen payload threshold keys) in
    let set : List ℕ = filter (is_sparse seen payload threshold) (set_of (ids_of seen)) in
    ranked_unique (λ c. 1 ≤ payload c) (is_emptier seen payload) (rank seen payload) (map (λ u. u.id) us) (sorted_by (is_emptier seen payload) set)
    full (all-sorted_by (λ c. 1 ≤ payload c) (is_emptier seen payload) set (filled seen payload threshold (set_of (ids_of seen))))
    (ranked_ids seen payload us (moved (IsMeant seen payload) (little_used m.sums payloads threshold) us same (all-filter (IsMeant seen payload) (is_little_used threshold) (map (used_of m.sums) payloads) meant)) full (in_order us sorted))
    (ranked-sorted_by (λ c. 1 ≤ payload c) (is_emptier seen payload) (rank seen payload) set (filled seen payload threshold (set_of (ids_of seen))))
    (once-moved (filter (is_sparse seen payload threshold) keys) (map (λ u. u.id) us) moves (once-filter (is_sparse seen payload threshold) keys (once_from_distinct keys names.once)))
    (once-sorted_by (is_emptier seen payload) set (once-filter (is_sparse seen payload threshold) (set_of (ids_of seen)) (once-set_of (ids_of seen))))
    (λ k.
    sym (list_any-IsPermutation (nat_eq k) (filter (is_sparse seen payload threshold) keys) (map (λ u. u.id) us) moves)
    ∙ has-filter k (is_sparse seen payload threshold) keys
    ∙ ap (λ b. b && is_sparse seen payload threshold k) (names.same k ∙ ap (has k) h.ids ∙ has-distinct_by k (ids_of seen) ∙ sym (has-set_of k (ids_of seen)))
    ∙ sym (has-sorted_by (is_emptier seen payload) k set ∙ has-filter k (is_sparse seen payload threshold) (set_of (ids_of seen))))

-- the prefix that is kept

fitting-ids : (seen : List Row) (room : ℕ) (us : List Used) (payload : ℕ → ℕ) → AllByRecursion (IsMeant seen payload) us → fitting (λ u. u.referenced * 100) room us ≡ fitting (λ c. referenced seen c * 100) room (map (λ u. u.id) us)
fitting-ids seen room [] payload h = refl
fitting-ids seen room (u ∷ us) payload h =
    ap (λ n. cond (nat_le (n * 100) room) (1 + fitting (λ u. u.referenced * 100) (room - n * 100) us) 0) h.0.counted
    ∙ ap (λ n. cond (nat_le (referenced seen u.id * 100) room) (1 + n) 0) (fitting-ids seen (room - referenced seen u.id * 100) us payload h.1)

once-take : (n : ℕ) (ns : List ℕ) → IsOnce ns → IsOnce (take n ns)
once-take zero ns h = tt
once-take (suc n) [] h = tt
once-take (suc n) (k ∷ ns) h = (absent n ns h.0, once-take n ns h.1)
  where
    absent : (n : ℕ) (ms : List ℕ) → has k ms ≡ false → has k (take n ms) ≡ false
    absent zero ms e = refl
    absent (suc n) [] e = refl
    absent (suc n) (m ∷ ms) e = step (nat_eq k m) refl e (λ f. absent n ms f)
      where
        step : (b : Bool) → nat_eq k m ≡ b → (b || has k ms) ≡ false → (has k ms ≡ false → has k (take n ms) ≡ false) → (nat_eq k m || has k (take n ms)) ≡ false
        step true t f i = cc
        step false t f i = ap (λ b. b || has k (take n ms)) t ∙ i f

ascends : (ns : List ℕ) → ((i j : ℕ) (d : ℕ) → i ≤ j → j < length ns → get_or ns i d ≤ get_or ns j d) → IsOnce ns → IsAscending ns
ascends [] h o = tt
ascends (n ∷ ns) h o =
    (above ns (λ k d l. h 0 (suc k) d (omega arith) (omega arith)) o.0, ascends ns (λ i j d p l. h (suc i) (suc j) d (omega arith) (omega arith)) o.1)
  where
    above : (ms : List ℕ) → ((k d : ℕ) → k < length ms → n ≤ get_or ms k d) → has n ms ≡ false → AllByRecursion (λ m. n < m) ms
    above [] i e = tt
    above (m ∷ ms) i e = step (nat_eq n m) refl e (λ f. above ms (λ k d l. i (suc k) d (omega arith)) f)
      where
        step : (b : Bool) → nat_eq n m ≡ b → (b || has n ms) ≡ false → (has n ms ≡ false → AllByRecursion (λ m. n < m) ms) → AllByRecursion (λ m. n < m) (m ∷ ms)
        step true t f j = cc
        step false t f j = let low : n ≤ m = i 0 0 (omega arith) in (grind (arith, nat_tests), j f)

pub sorted_set : (ns ms : List ℕ) → IsOnce ns → IsPermutation ns ms → IsSorted nat_cmp ms → ms ≡ set_of ns
sorted_set ns ms o p s =
    ascending_unique ms (set_of ns) (ascends ms (IsNonDecreasingBy-from_sort (λ x. x) ms s) (once-moved ns ms p o)) (IsAscending-set_of ns)
    (λ k. sym (list_any-IsPermutation (nat_eq k) ns ms p) ∙ sym (has-set_of k ns))

pub finished : (m : Counted) (seen : List Row) (payloads : List (ℕ × ℕ)) (threshold limit room : ℕ) (us : List Used) (picked ms : List ℕ) → HasSeen m seen → NamesEach m.ids payloads
    → IsPermutation (little_used m.sums payloads threshold) us → IsSortedBy goes_first us → room ≡ limit * m.total
    → picked ≡ map (λ u. u.id) (take (fitting (λ u. u.referenced * 100) room us) us) → IsPermutation picked ms → IsSorted nat_cmp ms
    → ms ≡ sparse seen (listed_length payloads) threshold limit
finished m seen payloads threshold limit room us picked ms h names same sorted r e p s =
    let payload : ℕ → ℕ = listed_length payloads in
    let all : List ℕ = sparse_ids seen payload threshold in
    let ids : map (λ u. u.id) us ≡ all = sorted_sparse m seen payloads threshold us h names same sorted in
    let meant : AllByRecursion (IsMeant seen payload) us =
    moved (IsMeant seen payload) (little_used m.sums payloads threshold) us same
    (all-filter (IsMeant seen payload) (is_little_used threshold) (map (used_of m.sums) payloads) (all_meant m seen payloads payloads h (all_given payloads names.once))) in
    let many : fitting (λ u. u.referenced * 100) room us ≡ fitting (λ c. referenced seen c * 100) (limit * sum_by (λ r. r.len) seen) all =
    fitting-ids seen room us payload meant ∙ ap (fitting (λ c. referenced seen c * 100) room) ids ∙ ap (λ n. fitting (λ c. referenced seen c * 100) n all) (r ∙ ap (λ n. limit * n) h.total) in
    let kept : picked ≡ take (fitting (λ c. referenced seen c * 100) (limit * sum_by (λ r. r.len) seen) all) all =
    e ∙ sym (take-map (λ (u : Used). u.id) (fitting (λ u. u.referenced * 100) room us) us) ∙ ap (λ n. take n (map (λ u. u.id) us)) many
    ∙ ap (take (fitting (λ c. referenced seen c * 100) (limit * sum_by (λ r. r.len) seen) all)) ids in
    let once : IsOnce all = once-sorted_by (is_emptier seen payload) (filter (is_sparse seen payload threshold) (set_of (ids_of seen))) (once-filter (is_sparse seen payload threshold) (set_of (ids_of seen)) (once-set_of (ids_of seen))) in
    sorted_set picked ms (subst IsOnce (sym kept) (once-take (fitting (λ c. referenced seen c * 100) (limit * sum_by (λ r. r.len) seen) all) all once)) p s ∙ ap set_of kept

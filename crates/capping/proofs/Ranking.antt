-- The ids of counted pairs that are sorted by use are in the order of capping.
use Rattle.std.proofs.Common.{◌≡◌, ℕ, zero, suc, ◌+◌, ◌<◌, Bool, true, false, cond, ◌||◌, ◌&&◌, List, [], ◌∷◌, map, length, get_or, refl, sym, ap, ◌∙◌, subst, arith, Some, None, nat_cmp, is_lt, is_some, add-one}
use Rattle.std.specs.Prelude.{nat_eq, nat_lt, ◌==◌}
use Rattle.std.specs.Ordering.{ordering_then}
use Rattle.std.specs.Cmp.{IsStrictWeakOrder}
use Rattle.std.specs.List.{AllByRecursion, IsDistinct}
use Rattle.std.specs.List.Sorted.{IsPermutation, IsSortedBy}
use Rattle.std.specs.Map.{lookup}
use Rattle.std.proofs.lemmas.Bool.Decides.{nat_tests}
use Rattle.std.proofs.lemmas.List.Sorted.{sorted_far, IsPermutation-map, list_any-IsPermutation, All-permutation}
use Rattle.std.proofs.lemmas.Map.Keys.{IsDistinct-IsPermutation, IsDistinct-head, IsDistinct-tail}
use Rattle.std.proofs.lemmas.Map.Made.{is_some-lookup}
use Rattle.vault_types.specs.Lists.{has, set_of, sorted_by}
use Rattle.vault_types.specs.Capping.{times, is_before}
use Rattle.vault_types.proofs.SetLemmas.{has-set_of}
use Rattle.capping.specs.Counts.{HasCounted, is_used_more}
use Rattle.vault_types.proofs.OrderLemmas.{IsRank, IsRanked, IsOnce, has-sorted_by, ranked-sorted_by, ranked_unique, once-sorted_by, once-set_of}

-- a count and an id against another count and id
abbrev ahead : ℕ → ℕ → ℕ → ℕ → Bool
ahead a x b y = nat_lt b a || ((a == b) && nat_lt x y)

pub used-more : (a x b y : ℕ) → is_lt (ordering_then (nat_cmp b a) (nat_cmp x y)) ≡ ahead a x b y
used-more a x b y = grind (arith, nat_tests)

one_way : (a x b y : ℕ) → ahead a x b y ≡ true → ahead b y a x ≡ false
one_way a x b y h = grind (arith, nat_tests)

chain : (a x b y c z : ℕ) → ahead a x b y ≡ false → ahead b y c z ≡ false → ahead a x c z ≡ false
chain a x b y c z h i = grind (arith, nat_tests)

apart : (a x b y : ℕ) → ahead a x b y ≡ false → ahead b y a x ≡ false → x ≡ y
apart a x b y h i = grind (arith, nat_tests)

pub weak_order : IsStrictWeakOrder is_used_more
weak_order = record { one_way = λ p q h. one_way p.1 p.0 q.1 q.0 h; chain = λ p q r h i. chain p.1 p.0 q.1 q.0 r.1 r.0 h i }

rank : (ids : List ℕ) → IsRank (λ _. Unit {0}) (is_before ids)
rank ids = record {
  one_way = λ x y _ _ h. one_way (times ids x) x (times ids y) y h;
  chain = λ x y z _ _ _ h i. chain (times ids x) x (times ids y) y (times ids z) z h i;
  apart = λ x y _ _ h i. apart (times ids x) x (times ids y) y h i;
}

-- by places, and by recursion

all_from_places : {X : Type 0} (Q : X → Type 0) (xs : List X) → ((k : ℕ) (d : X) → k < length xs → Q (get_or xs k d)) → AllByRecursion Q xs
all_from_places Q [] h = tt
all_from_places Q (x ∷ xs) h = (h 0 x (omega arith), all_from_places Q xs (λ k d l. h (suc k) d (omega arith)))

abbrev IsInOrder : List (ℕ × ℕ) → Type 0
IsInOrder [] = Unit {0}
IsInOrder (p ∷ ps) = AllByRecursion (λ q. is_used_more q p ≡ false) ps × IsInOrder ps

sorted-tail : (p : ℕ × ℕ) (ps : List (ℕ × ℕ)) → IsSortedBy is_used_more (p ∷ ps) → IsSortedBy is_used_more ps
sorted-tail p ps h = λ k d low high.
    let next : k + 1 ≡ suc k = add-one k in
    subst (λ n. is_used_more (get_or ps n d) (get_or ps k d) ≡ false) (sym next)
    (let e : is_used_more (get_or (p ∷ ps) (suc k + 1) d) (get_or (p ∷ ps) (suc k) d) ≡ false = h (suc k) d (omega arith) (omega arith) in
    subst (λ n. is_used_more (get_or (p ∷ ps) n d) (get_or ps k d) ≡ false) (add-one (suc k)) e)

in_order : (ps : List (ℕ × ℕ)) → IsSortedBy is_used_more ps → IsInOrder ps
in_order [] h = tt
in_order (p ∷ ps) h = (
  all_from_places (λ q. is_used_more q p ≡ false) ps (λ k d l. sorted_far is_used_more weak_order (p ∷ ps) h 0 (suc k) d (omega arith) (omega arith)),
  in_order ps (sorted-tail p ps h),
)

-- each pair has its count

abbrev IsCount : List ℕ → ℕ × ℕ → Type 0
IsCount ids p = p.1 ≡ times ids p.0

abbrev IsFound : List (ℕ × ℕ) → ℕ × ℕ → Type 0
IsFound es p = lookup (nat_eq p.0) es ≡ Some p.1

found-more : (e : ℕ × ℕ) (es ps : List (ℕ × ℕ)) → AllByRecursion (λ k. nat_eq e.0 k ≡ false) (map (λ p. p.0) ps) → AllByRecursion (IsFound es) ps → AllByRecursion (IsFound (e ∷ es)) ps
found-more e es [] h i = tt
found-more e es (p ∷ ps) h i =
    let other : nat_eq p.0 e.0 ≡ false = grind (arith, nat_tests, h.0) in
    (ap (λ b. cond b (Some e.1) (lookup (nat_eq p.0) es)) other ∙ i.0, found-more e es ps h.1 i.1)

all_found : (es : List (ℕ × ℕ)) → IsDistinct nat_eq (map (λ p. p.0) es) → AllByRecursion (IsFound es) es
all_found [] h = tt
all_found (e ∷ es) h =
    let self : nat_eq e.0 e.0 ≡ true = grind (arith, nat_tests) in (
      ap (λ b. cond b (Some e.1) (lookup (nat_eq e.0) es)) self,
      found-more e es es (IsDistinct-head nat_eq e.0 (map (λ p. p.0) es) h) (all_found es (IsDistinct-tail nat_eq e.0 (map (λ p. p.0) es) h)),
    )

places : {X : Type 0} (Q : X → Type 0) (xs : List X) → AllByRecursion Q xs → (k : ℕ) (d : X) → k < length xs → Q (get_or xs k d)
places Q [] h k d l = absurd (omega arith)
places Q (x ∷ xs) h zero d l = h.0
places Q (x ∷ xs) h (suc k) d l = places Q xs h.1 k d (omega arith)

moved : {X : Type 0} (Q : X → Type 0) (xs ys : List X) → IsPermutation xs ys → AllByRecursion Q xs → AllByRecursion Q ys
moved Q xs ys p h = all_from_places Q ys (All-permutation Q xs ys p (places Q xs h))

count_is : (ids : List ℕ) (p : ℕ × ℕ) (b : Bool) → cond b (Some (times ids p.0)) None ≡ Some p.1 → IsCount ids p
count_is ids p true e = cc
count_is ids p false e = cc

all_counts : (counts : List (ℕ × ℕ)) (ids : List ℕ) → HasCounted counts ids → AllByRecursion (IsCount ids) counts
all_counts counts ids h = each counts (all_found counts h.once)
  where
    each : (ps : List (ℕ × ℕ)) → AllByRecursion (IsFound counts) ps → AllByRecursion (IsCount ids) ps
    each [] i = tt
    each (p ∷ ps) i = (count_is ids p (has p.0 ids) (sym (h.each p.0) ∙ i.0), each ps i.1)

-- sorted pairs with their counts have their ids in the order of capping

ahead-counts : (ids : List ℕ) (p q : ℕ × ℕ) → IsCount ids p → IsCount ids q → is_used_more q p ≡ false → is_before ids q.0 p.0 ≡ false
ahead-counts ids p q e f h = subst (λ n. ahead n q.0 (times ids p.0) p.0 ≡ false) f (subst (λ n. ahead q.1 q.0 n p.0 ≡ false) e h)

ranked_ids : (ids : List ℕ) (ps : List (ℕ × ℕ)) → AllByRecursion (IsCount ids) ps → IsInOrder ps → IsRanked (is_before ids) (map (λ p. p.0) ps)
ranked_ids ids [] h i = tt
ranked_ids ids (p ∷ ps) h i = (behind ps h.1 i.0, ranked_ids ids ps h.1 i.1)
  where
    behind : (qs : List (ℕ × ℕ)) → AllByRecursion (IsCount ids) qs → AllByRecursion (λ q. is_used_more q p ≡ false) qs → AllByRecursion (λ c. is_before ids c p.0 ≡ false) (map (λ p. p.0) qs)
    behind [] j k = tt
    behind (q ∷ qs) j k = (ahead-counts ids p q h.0 j.0 k.0, behind qs j.1 k.1)

once_from_distinct : (xs : List ℕ) → IsDistinct nat_eq xs → IsOnce xs
once_from_distinct [] h = tt
once_from_distinct (x ∷ xs) h = (none xs (IsDistinct-head nat_eq x xs h), once_from_distinct xs (IsDistinct-tail nat_eq x xs h))
  where
    none : (ys : List ℕ) → AllByRecursion (λ y. nat_eq x y ≡ false) ys → has x ys ≡ false
    none [] i = refl
    none (y ∷ ys) i = ap (λ b. b || has x ys) i.0 ∙ none ys i.1

all_ids : (xs : List ℕ) → AllByRecursion (λ _. Unit {0}) xs
all_ids [] = tt
all_ids (x ∷ xs) = (tt, all_ids xs)

eq_flips : (x y : ℕ) → nat_eq x y ≡ nat_eq y x
eq_flips x y = grind (arith, nat_tests)

there_or_not : (b : Bool) (n : ℕ) → is_some (cond b (Some n) None) ≡ b
there_or_not true n = refl
there_or_not false n = refl

pub sorted_ids : (counts ps : List (ℕ × ℕ)) (ids : List ℕ) → HasCounted counts ids → IsPermutation counts ps → IsSortedBy is_used_more ps
    → map (λ p. p.0) ps ≡ sorted_by (is_before ids) (set_of ids)
sorted_ids counts ps ids h same sorted =
    let keys : List ℕ = map (λ p. p.0) counts in
    let firsts : List ℕ = map (λ p. p.0) ps in
    let moves : IsPermutation keys firsts = IsPermutation-map (λ (p : ℕ × ℕ). p.0) counts ps same in
    ranked_unique (λ _. Unit {0}) (is_before ids) (rank ids) firsts (sorted_by (is_before ids) (set_of ids))
    (all_ids firsts) (all_ids (sorted_by (is_before ids) (set_of ids)))
    (ranked_ids ids ps (moved (IsCount ids) counts ps same (all_counts counts ids h)) (in_order ps sorted))
    (ranked-sorted_by (λ _. Unit {0}) (is_before ids) (rank ids) (set_of ids) (all_ids (set_of ids)))
    (once_from_distinct firsts (IsDistinct-IsPermutation nat_eq eq_flips keys firsts moves h.once))
    (once-sorted_by (is_before ids) (set_of ids) (once-set_of ids))
    (λ k. sym (list_any-IsPermutation (nat_eq k) keys firsts moves)
    ∙ sym (is_some-lookup (nat_eq k) counts) ∙ ap is_some (h.each k) ∙ there_or_not (has k ids) (times ids k)
    ∙ sym (has-sorted_by (is_before ids) k (set_of ids) ∙ has-set_of k ids))

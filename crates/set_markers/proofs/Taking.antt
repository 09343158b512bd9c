-- The ids that a new floor of a set frees.
use Rattle.std.proofs.Common.{◌≡◌, ℕ, ◌-◌, ◌≤◌, Bool, true, false, cond, not, ◌&&◌, List, [], ◌∷◌, ◌++◌, map, length, take, drop, refl, sym, ap, ◌∙◌, subst, arith, Option, Some, None, nat_cmp}
use Rattle.std.specs.Prelude.{nat_eq, nat_lt, ◌==◌, filter, is_some, IsSome}
use Rattle.std.specs.Option.{option_map_or}
use Rattle.std.specs.List.{AllByRecursion, IsDistinct}
use Rattle.std.specs.List.Sorted.{IsPermutation, IsSorted}
use Rattle.std.specs.Map.{lookup}
use Rattle.std.proofs.lemmas.Bool.Decides.{nat_tests}
use Rattle.std.proofs.lemmas.List.{take_at, drop_at, take-append-drop}
use Rattle.std.proofs.lemmas.List.Sorted.{list_any-IsPermutation}
use Rattle.std.proofs.lemmas.Map.Entries.{option_filter}
use Rattle.vault_types.specs.Lists.{has}
use Rattle.vault_types.specs.Marks.{Mark, marks_of, marked_ids, marks_above, freed_ids}
use Rattle.vault_types.proofs.SetLemmas.{IsAscending-set_of, ascending_unique}
use Rattle.marker_gc.proofs.Lists.{has-filter, IsAscending-filter, ascending_from_sort}
use Rattle.marker_gc.proofs.Marking.{stays, raised, marker_of-more, marker_of-above}
use Rattle.set_markers.specs.SetMarkers.{is_key, count_of, AreCounts, is_below}
use Rattle.set_markers.proofs.Counting.{at_least_one}
use Rattle.set_markers.proofs.Naming.{IsEach, keys-count, named-count}
use Rattle.set_markers.proofs.Keeping.{AreForgotten, AreFewer}

-- a commit

pub each-more : (old new : List ((ℕ × ℕ) × ℕ)) (t v : ℕ) (ids : List ℕ) (marks : List Mark) → IsEach old marks
    → ((s c : ℕ) → lookup (is_key s c) new ≡ cond (nat_eq t s && has c ids) (raised v (lookup (is_key s c) old)) (lookup (is_key s c) old))
    → IsEach new (marks ++ marks_of t v ids)
each-more old new t v ids marks h e = λ s c. e s c ∙ ap (λ o. cond (nat_eq t s && has c ids) (raised v o) o) (h s c) ∙ sym (marker_of-more marks t v ids s c)

-- a taking. The ids whose marker in the set is below the floor

abbrev pub below_ids : ℕ → ℕ → List ((ℕ × ℕ) × ℕ) → List (ℕ × ℕ) → List ℕ
below_ids s floor markers counts = filter (is_below s floor markers) (map (λ e. e.0) counts)

all-filter : (p : ℕ → Bool) (Q : ℕ → Type 0) (ns : List ℕ) → ((n : ℕ) → p n ≡ true → Q n) → AllByRecursion Q (filter p ns)
all-filter p Q [] h = tt
all-filter p Q (n ∷ ns) h = step (p n) refl (all-filter p Q ns h)
  where
    step : (b : Bool) → p n ≡ b → AllByRecursion Q (filter p ns) → AllByRecursion Q (cond b (n ∷ filter p ns) (filter p ns))
    step true e i = (h n e, i)
    step false e i = i

pub below-marked : (s floor : ℕ) (markers : List ((ℕ × ℕ) × ℕ)) (counts : List (ℕ × ℕ)) → AllByRecursion (λ c. IsSome (lookup (is_key s c) markers)) (below_ids s floor markers counts)
below-marked s floor markers counts = all-filter (is_below s floor markers) (λ c. IsSome (lookup (is_key s c) markers)) (map (λ e. e.0) counts) (λ n e. some (lookup (is_key s n) markers) e)
  where
    some : (o : Option ℕ) → option_map_or (λ v. nat_lt v floor) o false ≡ true → IsSome o
    some None e = let clash : false ≡ true = e in cc
    some (Some v) e = refl

pub IsDistinct-filter : (p : ℕ → Bool) (ns : List ℕ) → IsDistinct nat_eq ns → IsDistinct nat_eq (filter p ns)
unfolding IsDistinct
IsDistinct-filter p [] h = tt
IsDistinct-filter p (n ∷ ns) h = step (p n) (IsDistinct-filter p ns h.1)
  where
    kept : (ms : List ℕ) → AllByRecursion (λ m. nat_eq n m ≡ false) ms → AllByRecursion (λ m. nat_eq n m ≡ false) (filter p ms)
    kept [] i = tt
    kept (m ∷ ms) i = both (p m) (kept ms i.1)
      where
        both : (b : Bool) → AllByRecursion (λ k. nat_eq n k ≡ false) (filter p ms) → AllByRecursion (λ k. nat_eq n k ≡ false) (cond b (m ∷ filter p ms) (filter p ms))
        both true j = (i.0, j)
        both false j = j

    step : (b : Bool) → IsDistinct nat_eq (filter p ns) → IsDistinct nat_eq (cond b (n ∷ filter p ns) (filter p ns))
    step true i = (kept ns h.0, i)
    step false i = i

-- what is left of the markers

pub each-above : (s floor : ℕ) (old new : List ((ℕ × ℕ) × ℕ)) (counts : List (ℕ × ℕ)) (marks : List Mark) → IsEach old marks → AreCounts counts old → AreForgotten s old new (below_ids s floor old counts) → IsEach new (marks_above s floor marks)
each-above s floor old new counts marks h a f = λ t c.
    f t c
    ∙ ap (λ b. cond (nat_eq s t && b) None (lookup (is_key t c) old)) (has-filter c (is_below s floor old) (map (λ e. e.0) counts))
    ∙ step t c (nat_eq s t) refl (has c (map (λ e. e.0) counts)) (keys-count counts old a c)
    ∙ ap (λ o. cond (s == t) (option_filter (stays floor) o) o) (h t c)
    ∙ sym (marker_of-above s floor marks t c)
  where
    one : (t c : ℕ) (o : Option ℕ) (b : Bool) → lookup (is_key t c) old ≡ o → s ≡ t → b ≡ nat_lt 0 (count_of c old) → cond (b && option_map_or (λ v. nat_lt v floor) o false) None o ≡ option_filter (stays floor) o
    one t c None true e k g = refl
    one t c None false e k g = refl
    one t c (Some v) true e k g = both (nat_lt v floor)
      where
        both : (d : Bool) → cond d None (Some v) ≡ cond (not d) (Some v) None
        both true = refl
        both false = refl
    one t c (Some v) false e k g =
        let some : 1 ≤ count_of c old = at_least_one t c old (ap is_some e) in
        let yes : nat_lt 0 (count_of c old) ≡ true = grind (arith, nat_tests) in
        let clash : false ≡ true = g ∙ yes in absurd (cc)

    step : (t c : ℕ) (d : Bool) → nat_eq s t ≡ d → (b : Bool) → b ≡ nat_lt 0 (count_of c old)
        → cond (d && (b && is_below s floor old c)) None (lookup (is_key t c) old) ≡ cond d (option_filter (stays floor) (lookup (is_key t c) old)) (lookup (is_key t c) old)
    step t c true e b g =
        let same : s ≡ t = grind (arith, nat_tests) in
        ap (λ k. cond (b && option_map_or (λ v. nat_lt v floor) (lookup (is_key k c) old) false) None (lookup (is_key t c) old)) same
        ∙ one t c (lookup (is_key t c) old) b refl same g
    step t c false e b g = refl

-- the ids that have no marker left

freed_ids-is : (s floor : ℕ) (old new : List ((ℕ × ℕ) × ℕ)) (counts : List (ℕ × ℕ)) (marks : List Mark) (ms : List ℕ) → IsEach old marks → AreCounts counts old → IsDistinct nat_eq (map (λ e. e.0) counts)
    → AreForgotten s old new (below_ids s floor old counts) → AreFewer old new (below_ids s floor old counts)
    → IsPermutation (filter (λ c. nat_eq (count_of c old) 1) (below_ids s floor old counts)) ms → IsSorted nat_cmp ms → ms ≡ freed_ids s floor marks
freed_ids-is s floor old new counts marks ms h a d f g p o =
    let ids : List ℕ = below_ids s floor old counts in
    let last : List ℕ = filter (λ c. nat_eq (count_of c old) 1) ids in
    ascending_unique ms (freed_ids s floor marks)
    (ascending_from_sort last ms (IsDistinct-filter (λ c. nat_eq (count_of c old) 1) ids (IsDistinct-filter (is_below s floor old) (map (λ e. e.0) counts) d)) p o)
    (IsAscending-filter (λ c. not (has c (marked_ids (marks_above s floor marks)))) (marked_ids marks) (IsAscending-set_of (map (λ m. m.id) marks)))
    (λ k.
    sym (list_any-IsPermutation (nat_eq k) last ms p)
    ∙ has-filter k (λ c. nat_eq (count_of c old) 1) ids
    ∙ step (has k ids) (count_of k old) (count_of k new) (g k)
    ∙ sym (has-filter k (λ c. not (has c (marked_ids (marks_above s floor marks)))) (marked_ids marks)
    ∙ ap (λ b. b && not (has k (marked_ids (marks_above s floor marks)))) (named-count old marks h k)
    ∙ ap (λ b. nat_lt 0 (count_of k old) && not b) (named-count new (marks_above s floor marks) (each-above s floor old new counts marks h a f) k)))
  where
    step : (b : Bool) (m n : ℕ) → n ≡ m - cond b 1 0 → (b && nat_eq m 1) ≡ (nat_lt 0 m && not (nat_lt 0 n))
    step true m n e = grind (arith, nat_tests)
    step false m n e = grind (arith, nat_tests)

-- a list whose end was made of the ids below the floor, then of those that have no marker left, and then put in order
pub taken : (s floor start : ℕ) (old new : List ((ℕ × ℕ) × ℕ)) (counts : List (ℕ × ℕ)) (marks : List Mark) (before below last after : List ℕ) → IsEach old marks → AreCounts counts old → IsDistinct nat_eq (map (λ e. e.0) counts)
    → start ≡ length before → below ≡ before ++ below_ids s floor old counts
    → AreForgotten s old new (drop start below) → AreFewer old new (drop start below) → last ≡ take start below ++ filter (λ c. nat_eq (count_of c old) 1) (drop start below)
    → take start after ≡ take start last → IsPermutation (drop start last) (drop start after) → IsSorted nat_cmp (drop start after)
    → after ≡ before ++ freed_ids s floor marks
taken s floor start old new counts marks before below last after h a d e b f g l front p o =
    let ids : List ℕ = below_ids s floor old counts in
    let head : take start below ≡ before = ap (take start) b ∙ take_at before ids start (sym e) in
    let tail : drop start below ≡ ids = ap (drop start) b ∙ drop_at before ids start (sym e) in
    let left : last ≡ before ++ filter (λ c. nat_eq (count_of c old) 1) ids = l ∙ ap (λ ns. ns ++ filter (λ c. nat_eq (count_of c old) 1) (drop start below)) head ∙ ap (λ ns. before ++ filter (λ c. nat_eq (count_of c old) 1) ns) tail in
    sym (take-append-drop start after)
    ∙ ap (λ ns. ns ++ drop start after) (front ∙ ap (take start) left ∙ take_at before (filter (λ c. nat_eq (count_of c old) 1) ids) start (sym e))
    ∙ ap (λ ns. before ++ ns)
    (freed_ids-is s floor old new counts marks (drop start after) h a d (subst (AreForgotten s old new) tail f) (subst (AreFewer old new) tail g)
    (subst (λ ns. IsPermutation ns (drop start after)) (ap (drop start) left ∙ drop_at before (filter (λ c. nat_eq (count_of c old) 1) ids) start (sym e)) p) o)

-- The room behind a commit.
use Rattle.std.proofs.Common.{◌≡◌, ◌<◌, ◌≤◌, ◌+◌, ◌-◌, ◌||◌, ℕ, suc, length, map, Bool, true, false, cond, not, List, [], ◌∷◌, ◌++◌, refl, sym, ◌∙◌, ap, arith, get_or, length-append}
use Rattle.std.specs.Prelude.{filter, slice_set, slice_index_or, nat_eq, nat_lt}
use Rattle.std.proofs.lemmas.List.{map-append}
use Rattle.std.proofs.lemmas.List.Folds.{list_any-append}
use Rattle.std.proofs.lemmas.List.Sums.{sum_by-set}
use Rattle.vault_types.specs.declared.Name.{Name}
use Rattle.vault_types.specs.Lists.{has, set_of, with_number}
use Rattle.vault_types.specs.Marks.{Mark, marks_of, marked_ids}
use Rattle.vault_types.specs.State.{empty_dataset}
use Rattle.vault_types.proofs.SetLemmas.{has-set_of, IsAscending-set_of, ascending_unique}
use Rattle.set_markers.specs.SetMarkers.{Marked, AreMarkersOfSets}
use Rattle.set_markers.proofs.Naming.{count-ids}
use Rattle.keeper_catalog.specs.declared.SetInfo.{SetInfo}
use Rattle.keeper_catalog.specs.Catalog.{set_info, versions_in}
use Rattle.keeper_jobs.specs.Jobs.{is_committed, uncommitted}

-- one version more

abbrev count : SetInfo → ℕ
count s = s.latest + 1 - s.floor

pub one_version : (sets : List SetInfo) (s : ℕ) (latest next : ℕ) (sparse : List ℕ) → s < length sets → latest ≤ (slice_index_or sets s (set_info empty_dataset)).latest + 1
    → versions_in (slice_set sets s (record { floor = (slice_index_or sets s (set_info empty_dataset)).floor; latest = latest; next = next; sparse = sparse })) ≤ versions_in sets + 1
one_version sets s latest next sparse below low =
    let old : SetInfo = get_or sets s (set_info empty_dataset) in
    let new : SetInfo = record { floor = old.floor; latest = latest; next = next; sparse = sparse } in
    let e = sum_by-set count sets s new (set_info empty_dataset) below in
    omega (arith, e, low)

-- the recipe's name goes

fewer : (p : Name → Bool) (xs : List Name) → length (filter p xs) ≤ length xs
fewer p [] = omega arith
fewer p (x ∷ xs) = step (p x) (fewer p xs)
  where
    step : (b : Bool) → length (filter p xs) ≤ length xs → length (cond b (x ∷ filter p xs) (filter p xs)) ≤ suc (length xs)
    step true h = omega (arith, h)
    step false h = omega (arith, h)

filter_append : (p : Name → Bool) (xs ys : List Name) → filter p (xs ++ ys) ≡ filter p xs ++ filter p ys
filter_append p [] ys = refl
filter_append p (x ∷ xs) ys = step (p x) (filter_append p xs ys)
  where
    step : (b : Bool) → filter p (xs ++ ys) ≡ filter p xs ++ filter p ys → cond b (x ∷ filter p (xs ++ ys)) (filter p (xs ++ ys)) ≡ cond b (x ∷ filter p xs) (filter p xs) ++ filter p ys
    step true h = ap (λ l. x ∷ l) h
    step false h = h

pub one_goes : (recipe : Name) (first next : ℕ) (xs : List Name) → is_committed recipe first next recipe ≡ true → length (uncommitted recipe first next (xs ++ recipe ∷ [])) + 1 ≤ length (xs ++ recipe ∷ [])
one_goes recipe first next xs gone =
    let last : filter (λ n. not (is_committed recipe first next n)) (recipe ∷ []) ≡ [] = ap (λ b. cond (not b) (recipe ∷ []) []) gone in
    let e = ap length (filter_append (λ n. not (is_committed recipe first next n)) xs (recipe ∷ [])) in
    let f = length-append (filter (λ n. not (is_committed recipe first next n)) xs) (filter (λ n. not (is_committed recipe first next n)) (recipe ∷ [])) in
    let l : length (filter (λ n. not (is_committed recipe first next n)) (recipe ∷ [])) ≡ 0 = ap length last in
    omega (arith, e, f, l, fewer (λ n. not (is_committed recipe first next n)) xs, length-append xs (recipe ∷ []))

-- the ids that are named

with_more : (n : ℕ) (ns : List ℕ) → length (with_number n ns) ≤ suc (length ns)
with_more n [] = omega arith
with_more n (m ∷ ms) = step (nat_lt n m) (nat_eq n m) (with_more n ms)
  where
    step : (b c : Bool) → length (with_number n ms) ≤ suc (length ms) → length (cond b (n ∷ m ∷ ms) (cond c (m ∷ ms) (m ∷ with_number n ms))) ≤ suc (suc (length ms))
    step true c h = omega arith
    step false true h = omega arith
    step false false h = omega (arith, h)

set_more : (xs ys : List ℕ) → length (set_of (xs ++ ys)) ≤ length xs + length (set_of ys)
set_more [] ys = omega arith
set_more (x ∷ xs) ys = omega (arith, with_more x (set_of (xs ++ ys)), set_more xs ys)

or_swap : (a b : Bool) → (a || b) ≡ (b || a)
or_swap true true = refl
or_swap true false = refl
or_swap false true = refl
or_swap false false = refl

swapped : (xs ys : List ℕ) → set_of (xs ++ ys) ≡ set_of (ys ++ xs)
swapped xs ys = ascending_unique (set_of (xs ++ ys)) (set_of (ys ++ xs)) (IsAscending-set_of (xs ++ ys)) (IsAscending-set_of (ys ++ xs))
    (λ k. has-set_of k (xs ++ ys) ∙ list_any-append (nat_eq k) xs ys ∙ or_swap (has k xs) (has k ys) ∙ sym (list_any-append (nat_eq k) ys xs) ∙ sym (has-set_of k (ys ++ xs)))

mark_ids : (s v : ℕ) (ids : List ℕ) → map (λ m. m.id) (marks_of s v ids) ≡ ids
mark_ids s v [] = refl
mark_ids s v (c ∷ ids) = ap (λ l. c ∷ l) (mark_ids s v ids)

pub more_ids : (m n : Marked) (marks : List Mark) (s v : ℕ) (ids : List ℕ) → AreMarkersOfSets m marks → AreMarkersOfSets n (marks ++ marks_of s v ids) → length n.ids ≤ length m.ids + length ids
more_ids m n marks s v ids one two =
    let olds : List ℕ = map (λ (k : Mark). k.id) marks in
    let all : marked_ids (marks ++ marks_of s v ids) ≡ set_of (ids ++ olds) = ap set_of (map-append (λ (k : Mark). k.id) marks (marks_of s v ids) ∙ ap (λ l. olds ++ l) (mark_ids s v ids)) ∙ swapped olds ids in
    let len : length (marked_ids (marks ++ marks_of s v ids)) ≡ length (set_of (ids ++ olds)) = ap length all in
    omega (arith, count-ids m marks one, count-ids n (marks ++ marks_of s v ids) two, len, set_more ids olds)

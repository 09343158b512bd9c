-- Which containers some set names.
use Rattle.std.proofs.Common.{◌≡◌, ℕ, zero, suc, ◌≤◌, Bool, true, false, cond, ◌||◌, List, [], ◌∷◌, map, length, refl, sym, ap, ◌∙◌, subst, arith, Option, Some, None}
use Rattle.std.specs.Prelude.{nat_eq, nat_lt, is_some}
use Rattle.std.specs.Map.{lookup}
use Rattle.std.specs.List.{IsDistinct}
use Rattle.std.proofs.lemmas.Bool.Decides.{nat_tests}
use Rattle.std.proofs.lemmas.Map.Made.{is_some-lookup}
use Rattle.vault_types.specs.Lists.{has}
use Rattle.vault_types.specs.Marks.{Mark, marked_ids}
use Rattle.vault_types.proofs.SetLemmas.{IsAscending-set_of}
use Rattle.marker_gc.specs.Markers.{is_of, marker_of}
use Rattle.marker_gc.proofs.Lists.{same_length}
use Rattle.marker_gc.proofs.Marking.{raised, marker_of-cons, has-marked_ids}
use Rattle.set_markers.specs.SetMarkers.{Marked, is_key, count_of, some_count, AreCounts, AreMarkersOfSets}
use Rattle.set_markers.proofs.Counting.{at_least_one, in_some_set}

-- an id that marks name has a marker in some set

some_set : (c : ℕ) (marks : List Mark) → has c (map (λ m. m.id) marks) ≡ true → (s : ℕ) × (is_some (marker_of marks s c) ≡ true)
some_set c [] h = let clash : false ≡ true = h in absurd (cc)
some_set c (m ∷ marks) h = step (nat_eq c m.id) refl h (λ f. some_set c marks f)
  where
    step : (b : Bool) → nat_eq c m.id ≡ b → (b || has c (map (λ n. n.id) marks)) ≡ true → (has c (map (λ n. n.id) marks) ≡ true → (s : ℕ) × (is_some (marker_of marks s c) ≡ true)) → (s : ℕ) × (is_some (marker_of (m ∷ marks) s c) ≡ true)
    step true t f g =
        let here : is_of m.set c m ≡ true = grind (arith, nat_tests) in
        (m.set, ap is_some (marker_of-cons m marks m.set c ∙ ap (λ b. cond b (raised m.version (marker_of marks m.set c)) (marker_of marks m.set c)) here))
    step false t f g =
        let found : (s : ℕ) × (is_some (marker_of marks s c) ≡ true) = g f in
        (found.0, ap is_some (marker_of-cons m marks found.0 c) ∙ more (is_of found.0 c m) (marker_of marks found.0 c) found.1)
      where
        more : (b : Bool) (o : Option ℕ) → is_some o ≡ true → is_some (cond b (raised m.version o) o) ≡ true
        more true o i = refl
        more false o i = i

in_marks : (s c : ℕ) (marks : List Mark) → is_some (marker_of marks s c) ≡ true → has c (map (λ m. m.id) marks) ≡ true
in_marks s c [] h = let clash : false ≡ true = h in cc
in_marks s c (m ∷ marks) h = step (is_of s c m) refl (sym (ap is_some (marker_of-cons m marks s c)) ∙ h) (λ f. in_marks s c marks f)
  where
    always : (b : Bool) → (b || true) ≡ true
    always true = refl
    always false = refl

    step : (b : Bool) → is_of s c m ≡ b → is_some (cond b (raised m.version (marker_of marks s c)) (marker_of marks s c)) ≡ true → (is_some (marker_of marks s c) ≡ true → has c (map (λ n. n.id) marks) ≡ true) → (nat_eq c m.id || has c (map (λ n. n.id) marks)) ≡ true
    step true t f g = let same : nat_eq c m.id ≡ true = grind (arith, nat_tests) in ap (λ b. b || has c (map (λ n. n.id) marks)) same
    step false t f g = ap (λ b. nat_eq c m.id || b) (g f) ∙ always (nat_eq c m.id)

-- the markers are those of these marks
abbrev pub IsEach : List ((ℕ × ℕ) × ℕ) → List Mark → Type 0
IsEach markers marks = (s c : ℕ) → lookup (is_key s c) markers ≡ marker_of marks s c

-- an id is named where its count is not 0
pub named-count : (markers : List ((ℕ × ℕ) × ℕ)) (marks : List Mark) → IsEach markers marks → (c : ℕ) → has c (marked_ids marks) ≡ nat_lt 0 (count_of c markers)
named-count markers marks h c = has-marked_ids c marks ∙ step (has c (map (λ m. m.id) marks)) refl (nat_lt 0 (count_of c markers)) refl
  where
    step : (a : Bool) → has c (map (λ m. m.id) marks) ≡ a → (b : Bool) → nat_lt 0 (count_of c markers) ≡ b → a ≡ b
    step true e true f = refl
    step true e false f =
        let set : (s : ℕ) × (is_some (marker_of marks s c) ≡ true) = some_set c marks e in
        let some : 1 ≤ count_of c markers = at_least_one set.0 c markers (ap is_some (h set.0 c) ∙ set.1) in
        absurd (let clash : nat_lt 0 (count_of c markers) ≡ true = grind (arith, nat_tests) in let no : true ≡ false = sym clash ∙ f in cc)
    step false e true f =
        let some : 1 ≤ count_of c markers = grind (arith, nat_tests) in
        let set : (s : ℕ) × (is_some (lookup (is_key s c) markers) ≡ true) = in_some_set c markers some in
        let clash : false ≡ true = sym e ∙ in_marks set.0 c marks (sym (ap is_some (h set.0 c)) ∙ set.1) in cc
    step false e false f = refl

pub keys-count : (counts : List (ℕ × ℕ)) (markers : List ((ℕ × ℕ) × ℕ)) → AreCounts counts markers → (c : ℕ) → has c (map (λ e. e.0) counts) ≡ nat_lt 0 (count_of c markers)
keys-count counts markers h c = sym (is_some-lookup (nat_eq c) counts) ∙ ap is_some (h c) ∙ step (count_of c markers)
  where
    step : (n : ℕ) → is_some (some_count n) ≡ nat_lt 0 n
    step zero = refl
    step (suc n) =
        let some : nat_eq (suc n) 0 ≡ false = grind (arith, nat_tests) in
        let more : nat_lt 0 (suc n) ≡ true = grind (arith, nat_tests) in
        ap (λ b. is_some (cond b None (Some (suc n)))) some ∙ sym more

-- the counts tell which ids are named
pub named-each : (counts : List (ℕ × ℕ)) (markers : List ((ℕ × ℕ) × ℕ)) (marks : List Mark) → AreCounts counts markers → IsEach markers marks → (c : ℕ) → has c (map (λ e. e.0) counts) ≡ has c (marked_ids marks)
named-each counts markers marks a h c = keys-count counts markers a c ∙ sym (named-count markers marks h c)

pub count-ids : (m : Marked) (marks : List Mark) → AreMarkersOfSets m marks → length m.ids ≡ length (marked_ids marks)
count-ids m marks h = same_length m.ids (marked_ids marks) h.once (IsAscending-set_of (map (λ n. n.id) marks)) h.ids

pub markers_of_sets : (m : Marked) (counts : List (ℕ × ℕ)) (marks : List Mark) → m.ids ≡ map (λ e. e.0) counts → AreCounts counts m.markers → IsDistinct nat_eq (map (λ e. e.0) counts) → IsEach m.markers marks → AreMarkersOfSets m marks
markers_of_sets m counts marks e a d h = record {
  each = h;
  once = subst (IsDistinct nat_eq) (sym e) d;
  ids = λ c. ap (has c) e ∙ named-each counts m.markers marks a h c;
}

-- For callers: marks that say the same.
use Rattle.std.proofs.Common.{◌≡◌, ℕ, Bool, true, false, cond, ◌&&◌, ◌||◌, List, [], ◌∷◌, map, refl, sym, ap, ◌∙◌}
use Rattle.std.specs.Prelude.{nat_eq, filter}
use Rattle.std.specs.List.{list_any}
use Rattle.std.specs.List.Sorted.{IsPermutation}
use Rattle.std.proofs.lemmas.List.Sorted.{list_any-IsPermutation, IsPermutation-map, All-permutation}
use Rattle.std.proofs.lemmas.List.Elements.{All-from_recursion, recursion_from_All}
use Rattle.vault_types.specs.Lists.{has, set_of, greatest}
use Rattle.vault_types.specs.Marks.{Mark, marked_ids}
use Rattle.vault_types.proofs.SetLemmas.{greatest-set_of, has-set_of, IsAscending-set_of, ascending_unique}
use Rattle.marker_gc.specs.Markers.{is_of, marker_of, AreMarkers}
use Rattle.marker_gc.proofs.Marking.{has-marked_ids}

-- the greatest number is that of the set

greatest-same : (ns ms : List ℕ) → ((k : ℕ) → has k ns ≡ has k ms) → greatest ns ≡ greatest ms
greatest-same ns ms h =
    sym (greatest-set_of ns)
    ∙ ap greatest (ascending_unique (set_of ns) (set_of ms) (IsAscending-set_of ns) (IsAscending-set_of ms) (λ k. has-set_of k ns ∙ h k ∙ sym (has-set_of k ms)))
    ∙ greatest-set_of ms

has-versions : (s c k : ℕ) (marks : List Mark) → has k (map (λ m. m.version) (filter (is_of s c) marks)) ≡ list_any (λ m. is_of s c m && nat_eq k m.version) marks
has-versions s c k [] = refl
has-versions s c k (m ∷ marks) = step (is_of s c m) (has-versions s c k marks)
  where
    step : (b : Bool) → has k (map (λ n. n.version) (filter (is_of s c) marks)) ≡ list_any (λ n. is_of s c n && nat_eq k n.version) marks
        → has k (map (λ n. n.version) (cond b (m ∷ filter (is_of s c) marks) (filter (is_of s c) marks))) ≡ ((b && nat_eq k m.version) || list_any (λ n. is_of s c n && nat_eq k n.version) marks)
    step true h = ap (λ b. nat_eq k m.version || b) h
    step false h = h

-- the order of marks says nothing
pub marker_of-moved : (marks moved : List Mark) → IsPermutation marks moved → (s c : ℕ) → marker_of moved s c ≡ marker_of marks s c
marker_of-moved marks moved p s c =
    greatest-same (map (λ m. m.version) (filter (is_of s c) moved)) (map (λ m. m.version) (filter (is_of s c) marks))
    (λ k. has-versions s c k moved ∙ sym (list_any-IsPermutation (λ m. is_of s c m && nat_eq k m.version) marks moved p) ∙ sym (has-versions s c k marks))

pub has-marked_ids-moved : (marks moved : List Mark) → IsPermutation marks moved → (c : ℕ) → has c (marked_ids moved) ≡ has c (marked_ids marks)
has-marked_ids-moved marks moved p c =
    has-marked_ids c moved ∙ sym (list_any-IsPermutation (nat_eq c) (map (λ m. m.id) marks) (map (λ m. m.id) moved) (IsPermutation-map (λ (m : Mark). m.id) marks moved p)) ∙ sym (has-marked_ids c marks)

pub markers-moved : (markers : List (ℕ × ℕ)) (s : ℕ) (marks moved : List Mark) → IsPermutation marks moved → AreMarkers markers s marks → AreMarkers markers s moved
markers-moved markers s marks moved p h = record {
  once = h.once;
  of_set = recursion_from_All (λ m. m.set ≡ s) moved (All-permutation (λ m. m.set ≡ s) marks moved p (All-from_recursion (λ m. m.set ≡ s) marks h.of_set));
  each = λ c. h.each c ∙ sym (marker_of-moved marks moved p s c);
}

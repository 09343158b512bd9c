-- The ids that a new floor frees.
use Rattle.std.proofs.Common.{◌≡◌, ℕ, Bool, true, false, cond, not, ◌&&◌, List, ◌++◌, map, length, take, drop, refl, sym, ap, ◌∙◌, subst, Option, Some, None, nat_cmp}
use Rattle.std.specs.Prelude.{nat_eq, nat_lt, filter, is_some}
use Rattle.std.specs.List.Sorted.{IsPermutation, IsSorted}
use Rattle.std.specs.Map.{lookup}
use Rattle.std.specs.Cmp.{nat_eq_equiv}
use Rattle.std.proofs.lemmas.List.{take_at, drop_at, take-append-drop}
use Rattle.std.proofs.lemmas.List.Sorted.{list_any-IsPermutation}
use Rattle.std.proofs.lemmas.Map.Entries.{option_filter, lookup-filter-values}
use Rattle.std.proofs.lemmas.Map.Made.{is_some-lookup, IsDistinct-keys_filter}
use Rattle.vault_types.specs.Lists.{has}
use Rattle.vault_types.specs.Marks.{Mark, marked_ids, marks_above, freed_ids}
use Rattle.vault_types.proofs.SetLemmas.{IsAscending-set_of, ascending_unique}
use Rattle.marker_gc.specs.Markers.{AreMarkers, ids_below}
use Rattle.marker_gc.proofs.Lists.{has-filter, IsAscending-filter, ascending_from_sort}
use Rattle.marker_gc.proofs.Marking.{stays, named-each, markers-above}

freed_ids-is : (markers : List (ℕ × ℕ)) (s floor : ℕ) (marks : List Mark) (ms : List ℕ) → AreMarkers markers s marks → IsPermutation (ids_below floor markers) ms → IsSorted nat_cmp ms → ms ≡ freed_ids s floor marks
freed_ids-is markers s floor marks ms h p o =
    ascending_unique ms (freed_ids s floor marks)
    (ascending_from_sort (ids_below floor markers) ms (IsDistinct-keys_filter nat_eq (λ e. nat_lt e.1 floor) markers h.once) p o)
    (IsAscending-filter (λ c. not (has c (marked_ids (marks_above s floor marks)))) (marked_ids marks) (IsAscending-set_of (map (λ m. m.id) marks)))
    (λ k.
    sym (list_any-IsPermutation (nat_eq k) (ids_below floor markers) ms p)
    ∙ sym (is_some-lookup (nat_eq k) (filter (λ e. nat_lt e.1 floor) markers))
    ∙ ap is_some (lookup-filter-values nat_eq_equiv (λ v. nat_lt v floor) k markers h.once)
    ∙ step (lookup (nat_eq k) markers)
    ∙ sym (has-filter k (λ c. not (has c (marked_ids (marks_above s floor marks)))) (marked_ids marks)
    ∙ ap (λ b. b && not (has k (marked_ids (marks_above s floor marks)))) (named-each markers s marks h k)
    ∙ ap (λ b. is_some (lookup (nat_eq k) markers) && not b)
    (named-each (filter (λ e. not (nat_lt e.1 floor)) markers) s (marks_above s floor marks) (markers-above markers s floor marks h) k
    ∙ ap is_some (lookup-filter-values nat_eq_equiv (stays floor) k markers h.once))))
  where
    step : (m : Option ℕ) → is_some (option_filter (λ v. nat_lt v floor) m) ≡ (is_some m && not (is_some (option_filter (stays floor) m)))
    step None = refl
    step (Some v) = both (nat_lt v floor)
      where
        both : (b : Bool) → is_some (cond b (Some v) None) ≡ (true && not (is_some (cond (not b) (Some v) None)))
        both true = refl
        both false = refl

-- a list whose end was made of the ids below the floor, and then put in order
pub taken : (markers : List (ℕ × ℕ)) (s floor start : ℕ) (marks : List Mark) (old made new : List ℕ) → AreMarkers markers s marks → start ≡ length old → made ≡ old ++ ids_below floor markers
    → take start new ≡ take start made → IsPermutation (drop start made) (drop start new) → IsSorted nat_cmp (drop start new) → new ≡ old ++ freed_ids s floor marks
taken markers s floor start marks old made new h e m front p o =
    sym (take-append-drop start new)
    ∙ ap (λ ns. ns ++ drop start new) (front ∙ ap (take start) m ∙ take_at old (ids_below floor markers) start (sym e))
    ∙ ap (λ ns. old ++ ns) (freed_ids-is markers s floor marks (drop start new) h (subst (λ ns. IsPermutation ns (drop start new)) (ap (drop start) m ∙ drop_at old (ids_below floor markers) start (sym e)) p) o)

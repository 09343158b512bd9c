use Rattle.std.proofs.Common.{◌≡◌, ◌≤◌, ◌-◌, ◌&&◌, ℕ, take, cond, None}
use Rattle.std.specs.Prelude.{nat_eq}
use Rattle.std.specs.HashMap.{spare, IsUnique}
use Rattle.std.specs.Map.{lookup}
use Rattle.std.proofs.lemmas.List.Filters.{FiltersInPlace}
use Rattle.vault_types.specs.Lists.{has}
use Rattle.set_markers.specs.SetMarkers.{is_key, count_of, AreCounts}
use Rattle.set_markers.proofs.maps.keep_last.Given as goal

abbrev pub invariant-loop-i : goal.invariant-loop-i
invariant-loop-i l = record {
  counted : AreCounts l.counts.entries l.markers.entries;
  kept : FiltersInPlace (λ c. nat_eq (count_of c l.initial.markers.entries) 1) l.initial.ids l.ids l.kept l.i;
  forgotten : (s c : ℕ) → lookup (is_key s c) l.markers.entries ≡ cond (nat_eq l.set s && has c (take l.i l.initial.ids)) None (lookup (is_key s c) l.initial.markers.entries);
  fewer : (c : ℕ) → count_of c l.markers.entries ≡ count_of c l.initial.markers.entries - cond (has c (take l.i l.initial.ids)) 1 0;
  unique : IsUnique nat_eq l.initial.counts → IsUnique nat_eq l.counts;
  markers_room : spare l.initial.markers ≤ spare l.markers;
  counts_room : spare l.initial.counts ≤ spare l.counts;
}

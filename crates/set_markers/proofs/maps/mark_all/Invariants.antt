use Rattle.std.proofs.Common.{◌≡◌, ◌≤◌, ◌+◌, ◌&&◌, ℕ, max, take, cond, Some}
use Rattle.std.specs.Prelude.{nat_eq}
use Rattle.std.specs.Option.{option_map_or}
use Rattle.std.specs.HashMap.{spare, IsUnique}
use Rattle.std.specs.Map.{lookup}
use Rattle.vault_types.specs.Lists.{has}
use Rattle.set_markers.specs.SetMarkers.{is_key, AreCounts}
use Rattle.set_markers.proofs.maps.mark_all.Given as goal

abbrev pub invariant-loop-id : goal.invariant-loop-id
invariant-loop-id l = record {
  counted : AreCounts l.counts.entries l.markers.entries;
  marked : (s c : ℕ) → lookup (is_key s c) l.markers.entries ≡ cond (nat_eq l.set s && has c (take l.id-index l.ids)) (Some (option_map_or (max l.version) (lookup (is_key s c) l.initial.markers.entries) l.version)) (lookup (is_key s c) l.initial.markers.entries);
  unique : IsUnique nat_eq l.initial.counts → IsUnique nat_eq l.counts;
  markers_room : spare l.initial.markers ≤ spare l.markers + l.id-index;
  counts_room : spare l.initial.counts ≤ spare l.counts + l.id-index;
}

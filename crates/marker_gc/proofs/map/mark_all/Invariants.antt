use Rattle.std.proofs.Common.{◌≡◌, ◌≤◌, ◌+◌, ℕ, max, take, cond, Some}
use Rattle.std.specs.Prelude.{nat_eq}
use Rattle.std.specs.Option.{option_map_or}
use Rattle.std.specs.HashMap.{spare, IsUnique}
use Rattle.std.specs.Map.{lookup}
use Rattle.vault_types.specs.Lists.{has}
use Rattle.marker_gc.proofs.map.mark_all.Given as goal

abbrev pub invariant-loop-id : goal.invariant-loop-id
invariant-loop-id l = record {
  marked : (c : ℕ) → lookup (nat_eq c) l.markers.entries ≡ cond (has c (take l.id-index l.ids)) (Some (option_map_or (max l.version) (lookup (nat_eq c) l.initial.markers.entries) l.version)) (lookup (nat_eq c) l.initial.markers.entries);
  once : IsUnique nat_eq l.initial.markers → IsUnique nat_eq l.markers;
  room : spare l.initial.markers ≤ spare l.markers + l.id-index;
}

use Rattle.std.proofs.Common.{◌≡◌, ◌≤◌, ◌+◌, ◌++◌, length, map, vec_len, vec_capacity}
use Rattle.std.specs.Prelude.{filter}
use Rattle.set_markers.specs.SetMarkers.{is_below}
use Rattle.set_markers.proofs.maps.push_below.Given as goal

abbrev pub invariant-loop-id : goal.invariant-loop-id
invariant-loop-id l = record {
  ids : l.out.items ++ filter (is_below l.set l.floor l.markers.entries) l.id-iterator ≡ l.initial.out.items ++ filter (is_below l.set l.floor l.markers.entries) (map (λ e. e.0) l.counts.entries);
  room : vec_len l.out + length l.id-iterator ≤ vec_capacity l.out;
  capacity : vec_capacity l.initial.out ≤ vec_capacity l.out;
}

use Rattle.std.proofs.Common.{◌≡◌, ◌≤◌, ◌+◌, ◌++◌, length, vec_len, vec_capacity}
use Rattle.marker_gc.specs.Markers.{ids_below}
use Rattle.marker_gc.proofs.map.push_below.Given as goal

abbrev pub invariant-loop-id : goal.invariant-loop-id
invariant-loop-id l = record {
  ids : l.out.items ++ ids_below l.floor l.id-iterator ≡ l.initial.out.items ++ ids_below l.floor l.markers.entries;
  room : vec_len l.out + length l.id-iterator ≤ vec_capacity l.out;
  capacity : vec_capacity l.initial.out ≤ vec_capacity l.out;
}

use Rattle.std.proofs.Common.{◌≤◌, ◌+◌, ◌*◌, ◌&&◌, not, List, length, drop, vec_capacity}
use Rattle.vault_types.specs.Lists.{has}
use Rattle.vault_types.specs.Marks.{Mark, marked_ids}
use Rattle.set_markers.specs.SetMarkers.{AreMarkersOfSets}
use Rattle.restore_pins.specs.Pins.{listed_ids}
use Rattle.keeper_removals.specs.Removals.{Leaves}
use Rattle.keeper_removals.proofs.releasing.let_unneeded_go.Given as goal

abbrev pub decreases-loop-left : goal.decreases-loop-left
decreases-loop-left l = l.left

abbrev pub invariant-loop-left : goal.invariant-loop-left
invariant-loop-left l = record {
  low : l.left ≤ length l.ids;
  left : (marks : List Mark) → AreMarkersOfSets l.markers marks
      → Leaves (λ k. has k (drop l.left l.ids) && (not (has k (marked_ids marks)) && not (has k (listed_ids l.pins)))) l.initial.tables.entries l.tables.entries l.initial.strays.items l.strays.items;
  room : length l.strays.items + 2 * length l.tables.entries ≤ length l.initial.strays.items + 2 * length l.initial.tables.entries;
  capacity : vec_capacity l.initial.strays ≤ vec_capacity l.strays;
}

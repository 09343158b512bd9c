use Rattle.std.proofs.Common.{◌≡◌, ◌≤◌, ◌+◌, ◌*◌, ◌&&◌, not, ℕ, true, List, length, drop, vec_capacity}
use Rattle.vault_types.specs.declared.Table.{Table}
use Rattle.vault_types.specs.Lists.{has}
use Rattle.fp_index.specs.Index.{IsIndexOf}
use Rattle.restore_pins.specs.Pins.{listed_ids}
use Rattle.deletion_laws.specs.Deleting.{without_ids}
use Rattle.keeper_removals.specs.Removals.{Leaves, IsKnown}
use Rattle.keeper_removals.proofs.deleting.forget_containers.Given as goal

abbrev pub decreases-loop-left : goal.decreases-loop-left
decreases-loop-left l = l.left

abbrev pub invariant-loop-left : goal.invariant-loop-left
invariant-loop-left l = record {
  low : l.left ≤ length l.ids;
  left : Leaves (λ k. has k (drop l.left l.ids) && not (has k (listed_ids l.pins))) l.initial.tables.entries l.tables.entries l.initial.strays.items l.strays.items;
  index : (known : List Table) → ((id : ℕ) → has id l.ids ≡ true → IsKnown l.initial.tables.entries known id) → IsIndexOf l.initial.index known → IsIndexOf l.index (without_ids (drop l.left l.ids) known);
  room : length l.strays.items + 2 * length l.tables.entries ≤ length l.initial.strays.items + 2 * length l.initial.tables.entries;
  capacity : vec_capacity l.initial.strays ≤ vec_capacity l.strays;
}

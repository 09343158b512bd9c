use Rattle.std.proofs.Common.{◌≤◌, ◌+◌, ◌-◌, length, vec_capacity}
use Rattle.keeper_removals.specs.Removals.{LeavesRecipes}
use Rattle.keeper_removals.proofs.deleting.leave_recipes.Given as goal

abbrev pub decreases-loop-version : goal.decreases-loop-version
decreases-loop-version l = l.version

abbrev pub invariant-loop-version : goal.invariant-loop-version
invariant-loop-version l = record {
  low : l.old ≤ l.version;
  high : l.version ≤ l.floor;
  left : LeavesRecipes l.set l.version l.floor l.initial.strays.items l.strays.items;
  count : length l.strays.items ≤ length l.initial.strays.items + (l.floor - l.version);
  capacity : vec_capacity l.initial.strays ≤ vec_capacity l.strays;
}

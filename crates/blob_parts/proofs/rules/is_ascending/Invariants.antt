use Rattle.std.proofs.Common.{◌-◌, ◌≤◌, drop}
use Rattle.vault_types.specs.Lists.{IsAscending}
use Rattle.blob_parts.proofs.rules.is_ascending.Given as goal

abbrev pub invariant-loop-i : goal.invariant-loop-i
invariant-loop-i l = record {
  past : 1 ≤ l.i;
  forth : IsAscending l.ids → IsAscending (drop (l.i - 1) l.ids);
  back : IsAscending (drop (l.i - 1) l.ids) → IsAscending l.ids;
}

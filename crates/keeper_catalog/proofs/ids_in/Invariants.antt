use Rattle.std.proofs.Common.{◌≡◌, ℕ, map, take}
use Rattle.vault_types.specs.Lists.{has, IsAscending}
use Rattle.keeper_catalog.proofs.ids_in.Given as goal

abbrev pub invariant-loop-row : goal.invariant-loop-row
invariant-loop-row l = record {
  each : (c : ℕ) → has c l.ids.keys ≡ has c (map (λ r. r.id) (take l.row-index l.rows));
  ascending : IsAscending l.ids.keys;
}

use Rattle.std.proofs.Common.{◌≡◌, IsTrue, drop}
use Rattle.std.specs.List.{list_any}
use Rattle.vault_types.specs.Names.{same_fp}
use Rattle.keeper_core.proofs.copying.place_of.Given as goal

abbrev pub invariant-loop-row : goal.invariant-loop-row
invariant-loop-row l = record {
  number : l.number ≡ l.row-index;
  among : IsTrue (list_any (λ r. same_fp r.fp l.fp) (drop l.row-index l.rows));
}

use Rattle.std.proofs.Common.{take}
use Rattle.vault_types.specs.Lists.{with_number}
use Rattle.fp_index.specs.Lists.{TakesRows}
use Rattle.fp_index.proofs.Entries.{AreDone}
use Rattle.fp_index.proofs.lists.add_rows.Given as goal

abbrev pub invariant-loop-row : goal.invariant-loop-row
invariant-loop-row l = record {
  done : AreDone (with_number l.id) l.initial.containers.entries l.containers.entries (take l.row-index l.rows);
  room : TakesRows l.containers.entries l.id l.rows;
}

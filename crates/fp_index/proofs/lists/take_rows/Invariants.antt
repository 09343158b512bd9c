use Rattle.std.proofs.Common.{take}
use Rattle.fp_index.specs.Lists.{without}
use Rattle.fp_index.proofs.Entries.{AreDone}
use Rattle.fp_index.proofs.lists.take_rows.Given as goal

abbrev pub invariant-loop-row : goal.invariant-loop-row
invariant-loop-row l = AreDone (without l.id) l.initial.containers.entries l.containers.entries (take l.row-index l.rows)

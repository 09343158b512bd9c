use Rattle.std.proofs.Common.{take}
use Rattle.fp_index.specs.Index.{IsIndexOf}
use Rattle.fp_index.proofs.Index.from_tables.Given as goal

abbrev pub invariant-loop-table : goal.invariant-loop-table
invariant-loop-table l = IsIndexOf l.index (take l.table-index l.tables)

use Rattle.std.proofs.Common.{◌≡◌, ◌++◌, map, take}
use Rattle.keeper_driver.specs.Drafts.{row_in}
use Rattle.keeper_driver.proofs.jobs.add_rows.Given as goal

abbrev pub invariant-loop-row : goal.invariant-loop-row
invariant-loop-row l = l.rows ≡ l.initial.rows ++ map (row_in l.table.id) (take l.row-index l.table.rows)

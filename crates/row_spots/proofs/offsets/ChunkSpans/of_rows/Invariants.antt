use Rattle.std.proofs.Common.{drop}
use Rattle.row_spots.proofs.Building.{IsBuilt}
use Rattle.row_spots.proofs.offsets.ChunkSpans.of_rows.Given as goal

abbrev pub invariant-loop-row : goal.invariant-loop-row
invariant-loop-row l = IsBuilt l.chunks.entries l.at (drop l.row-index l.rows) l.rows

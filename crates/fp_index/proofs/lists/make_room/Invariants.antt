use Rattle.std.proofs.Common.{take}
use Rattle.fp_index.proofs.Entries.{HasRoom}
use Rattle.fp_index.proofs.lists.make_room.Given as goal

abbrev pub invariant-loop-row : goal.invariant-loop-row
invariant-loop-row l = HasRoom l.initial.containers.entries l.containers.entries l.id (take l.row-index l.rows)

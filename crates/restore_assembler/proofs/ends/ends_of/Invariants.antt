use Rattle.std.proofs.Common.{take}
use Rattle.restore_assembler.specs.Ends.{HasEnds}
use Rattle.restore_assembler.proofs.ends.ends_of.Given as goal

abbrev pub invariant-loop-spot : goal.invariant-loop-spot
invariant-loop-spot l = HasEnds l.ends (take l.spot-index l.spots)

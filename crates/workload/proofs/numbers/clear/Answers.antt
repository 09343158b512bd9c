use Rattle.std.proofs.Common.{arith}
use Rattle.workload.proofs.Counting.{zero_more}
use Rattle.workload.proofs.numbers.clear.Goals as goal

pub loop-byte-preserved : goal.loop-byte-preserved
loop-byte-preserved c = zero_more c.loop-byte.byte-index c.loop-byte.buf (omega arith) c.loop-byte.invariant

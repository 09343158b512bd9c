use Rattle.std.proofs.Common.{◌<◌, ℕ, length, arith}
use Rattle.std.proofs.Math.ListN.{length-set}
use Rattle.workload.proofs.Counting.{number_more, byte_more}
use Rattle.workload.proofs.numbers.fill.Goals as goal

pub loop-at-preserved : goal.loop-at-preserved
loop-at-preserved c =
    let within : c.loop-at.at < length c.loop-at.buf = omega arith in (
      omega (arith, length-set {A = ℕ}),
      omega (arith, length-set {A = ℕ}),
      number_more c.args.number c.loop-at.at c.loop-at.last c.next-last.result c.loop-at.invariant.2 c.next-last.ensures,
      byte_more c.args.number c.loop-at.at c.loop-at.last c.next-last.result c.loop-at.buf within c.loop-at.invariant.2 c.loop-at.invariant.3 c.next-last.ensures,
    )

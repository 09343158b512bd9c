use Rattle.std.proofs.Common.{arith}
use Rattle.vault_traits.proofs.Written.{takes_more, within_more, cut_off}
use Rattle.vault_traits.proofs.writing.write_all.Goals as goal

pub loop-done-preserved : goal.loop-done-preserved
loop-done-preserved g c =
    let told = g.K.Sink.told in
    let inv = c.loop-done.invariant in
    record {
      within = within_more c.args.bytes.now c.loop-done.done c.in-Ok.n inv.within c.in-Ok.ensures.some.1;
      taken = takes_more (told c.args.sink.now).taken (told c.loop-done.sink).taken (told c.write.new.self).taken c.args.bytes.now c.loop-done.done c.in-Ok.n inv.taken c.in-Ok.ensures.taken;
      later = omega (arith, inv.later, c.write.ensures.cause.later);
    }

pub returns-in-Err-clause-err : goal.returns-in-Err-clause-err
returns-in-Err-clause-err g c =
    let told = g.K.Sink.told in
    let inv = c.loop-done.invariant in
    cut_off c.args.bytes.now c.loop-done.done (told c.args.sink.now) (told c.loop-done.sink) (told c.write.new.self) inv.taken inv.later c.in-Err.ensures.err c.in-Err.ensures.cause.failed c.loop-done-test.true

use Rattle.restore_assembler.specs.Writing.{IsWaiting}
use Rattle.restore_assembler.proofs.Waiting.{bytes_to}
use Rattle.restore_assembler.proofs.writing.write_run.Given as goal

abbrev pub invariant-loop-spot : goal.invariant-loop-spot
invariant-loop-spot g l =
    let s = g.K.Sink in
    IsWaiting l.payload (bytes_to l.payload l.run l.spot-index) l.start l.end (s.told l.fn.sink) (s.told l.sink) l.fn.sum l.sum

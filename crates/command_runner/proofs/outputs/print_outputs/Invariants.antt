use Rattle.std.proofs.Common.{◌≤◌}
use Rattle.workload.specs.Places.{file_at}
use Rattle.command_runner.proofs.Fills.{SummedTo}
use Rattle.command_runner.proofs.outputs.print_outputs.Given as goal

abbrev pub invariant-loop-at : goal.invariant-loop-at
invariant-loop-at g l = record {
  summed : SummedTo (file_at l.places.seed l.places.places) l.lines l.answers l.at (g.O.Sink.told l.fn.out) (g.O.Sink.told l.out);
  within : l.at ≤ l.count;
}

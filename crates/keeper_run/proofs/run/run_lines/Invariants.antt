use Rattle.std.proofs.Common.{◌≤◌, length}
use Rattle.std.specs.Prelude.{vec_capacity}
use Rattle.beside_steps.specs.Holding.{Holds}
use Rattle.beside_jobs.specs.Under.{IsUnder}
use Rattle.keeper_run.proofs.run.run_lines.Given as goal

abbrev pub invariant-loop-at : goal.invariant-loop-at
invariant-loop-at g l = record {
  within : l.at ≤ length l.lines;
  room : l.workers ≤ vec_capacity l.running;
  holds : Holds l.keeper (g.P.Places.told l.places).files l.running.items;
  under : IsUnder l.limits l.lines (record { keeper = l.fn.keeper; places = g.P.Places.told l.fn.places }) l.at l.answers.items l.running.items l.keeper (g.P.Places.told l.places);
}

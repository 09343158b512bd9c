use Rattle.std.proofs.Common.{◌≡◌, ◌≤◌, map, length, None}
use Rattle.std.specs.Prelude.{vec_capacity}
use Rattle.beside_laws.specs.Progress.{Underway}
use Rattle.beside_runner.proofs.run.run_beside.Given as goal

abbrev pub invariant-loop-at : goal.invariant-loop-at
invariant-loop-at g l = record {
  within : l.at ≤ length l.lines;
  room : l.workers ≤ vec_capacity l.running;
  between : g.W.World.in_line l.world ≡ None;
  holds : g.W.World.holds l.world l.running.items;
  under : Underway g.K.PinnedKeeper.shelf g.K.PinnedKeeper.keeps g.K.PinnedKeeper.strays l.limits l.lines (g.W.World.now l.fn.world) l.at l.answers.items (map g.E.RunningRestore.past l.running.items) (g.W.World.now l.world);
}

use Rattle.std.proofs.Common.{◌≡◌, ℕ, List, map, Some}
use Rattle.std.specs.Prelude.{vec_capacity}
use Rattle.vault_types.specs.declared.Answer.{Answer}
use Rattle.vault_types.specs.declared.Line.{Line}
use Rattle.store_model.specs.Steps.{Moment}
use Rattle.beside_laws.specs.Progress.{Underway}
use Rattle.beside_runner.proofs.run.go_through.Given as goal

abbrev pub invariant-loop : goal.invariant-loop
invariant-loop g l = record {
  room : vec_capacity l.running ≡ vec_capacity l.initial.running;
  within : g.W.World.in_line l.world ≡ Some l.line;
  holds : g.W.World.holds l.world l.running.items;
  under : (lines : List Line) (start : Moment g.row.K.Denot) (i : ℕ) (answers : List Answer)
      → Underway g.K.PinnedKeeper.shelf g.K.PinnedKeeper.keeps g.K.PinnedKeeper.strays l.limits lines start i answers (map g.E.RunningRestore.past l.initial.running.items) (g.W.World.now l.initial.world)
      → Underway g.K.PinnedKeeper.shelf g.K.PinnedKeeper.keeps g.K.PinnedKeeper.strays l.limits lines start i answers (map g.E.RunningRestore.past l.running.items) (g.W.World.now l.world);
}

use Rattle.std.proofs.Common.{◌≡◌, ◌≤◌, ℕ, List, map, None}
use Rattle.std.specs.Prelude.{vec_len, vec_capacity}
use Rattle.vault_types.specs.declared.Line.{Line}
use Rattle.store_model.specs.Steps.{Moment}
use Rattle.beside_laws.specs.Progress.{Underway}
use Rattle.beside_runner.proofs.serving.serve.Given as goal

abbrev pub decreases-loop-left : goal.decreases-loop-left
decreases-loop-left g l = l.left

abbrev pub invariant-loop-left : goal.invariant-loop-left
invariant-loop-left g l = record {
  within : l.left ≤ vec_len l.running;
  room : vec_capacity l.running ≡ vec_capacity l.initial.running;
  between : g.W.World.in_line l.world ≡ None;
  holds : g.W.World.holds l.world l.running.items;
  under : (lines : List Line) (start : Moment g.row.K.Denot) (i : ℕ)
      → Underway g.K.PinnedKeeper.shelf g.K.PinnedKeeper.keeps g.K.PinnedKeeper.strays l.limits lines start i l.initial.answers.items (map g.E.RunningRestore.past l.initial.running.items) (g.W.World.now l.initial.world)
      → Underway g.K.PinnedKeeper.shelf g.K.PinnedKeeper.keeps g.K.PinnedKeeper.strays l.limits lines start i l.answers.items (map g.E.RunningRestore.past l.running.items) (g.W.World.now l.world);
}

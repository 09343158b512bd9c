use Rattle.std.proofs.Common.{◌≡◌, ℕ, List, map}
use Rattle.std.specs.Prelude.{vec_len, vec_capacity}
use Rattle.vault_types.specs.declared.Answer.{Answer}
use Rattle.vault_types.specs.declared.Limits.{Limits}
use Rattle.vault_types.specs.declared.Line.{Line}
use Rattle.store_model.specs.Steps.{Moment}
use Rattle.beside_laws.specs.Progress.{Underway}
use Rattle.beside_runner.proofs.run.feed_all.Given as goal

abbrev pub invariant-loop-at : goal.invariant-loop-at
invariant-loop-at g l = record {
  many : vec_len l.running ≡ vec_len l.initial.running;
  room : vec_capacity l.running ≡ vec_capacity l.initial.running;
  line : g.W.World.in_line l.world ≡ g.W.World.in_line l.initial.world;
  holds : g.W.World.holds l.world l.running.items;
  under : (limits : Limits) (lines : List Line) (start : Moment g.row.K.Denot) (i : ℕ) (answers : List Answer)
      → Underway g.K.PinnedKeeper.shelf g.K.PinnedKeeper.keeps g.K.PinnedKeeper.strays limits lines start i answers (map g.E.RunningRestore.past l.initial.running.items) (g.W.World.now l.initial.world)
      → Underway g.K.PinnedKeeper.shelf g.K.PinnedKeeper.keeps g.K.PinnedKeeper.strays limits lines start i answers (map g.E.RunningRestore.past l.running.items) (g.W.World.now l.world);
}

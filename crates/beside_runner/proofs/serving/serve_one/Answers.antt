use Rattle.std.proofs.Common.{List, sym, subst}
use Rattle.beside_laws.specs.Progress.{Underway}
use Rattle.beside_laws.specs.Running.{Past}
use Rattle.beside_runner.proofs.serving.serve_one.Goals as goal

pub end_at-requires-clause-under : goal.end_at-requires-clause-under
end_at-requires-clause-under g c =
    let u = c.requires.under in (
      u.0,
      u.1,
      u.2,
      subst (λ (P : List (Past g.row.K.Denot)). Underway g.K.PinnedKeeper.shelf g.K.PinnedKeeper.keeps g.K.PinnedKeeper.strays c.args.limits.now u.0 u.1 u.2 c.args.answers.now.items P (g.W.World.now c.args.world.now)) (sym c.reply_at.ensures.past) u.3,
    )

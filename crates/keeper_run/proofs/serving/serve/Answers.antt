use Rattle.std.proofs.Common.{◌∙◌, arith}
use Rattle.keeper_run.proofs.serving.serve.Goals as goal

pub serve_one-turn-requires-clause-under : goal.serve_one-turn-requires-clause-under
serve_one-turn-requires-clause-under g c κs within = let u = c.requires.under in (u.0, u.1, u.2, c.loop-left.invariant.under u.0 u.1 u.2 u.3)

pub loop-left-preserved : goal.loop-left-preserved
loop-left-preserved g c = record {
  within = omega (arith, c.loop-left.invariant.within, c.serve_one-turn.ensures.left);
  room = c.serve_one-turn.ensures.room ∙ c.loop-left.invariant.room;
  holds = c.serve_one-turn.ensures.holds;
  under = λ lines start i u. c.serve_one-turn.ensures.under lines start i (c.loop-left.invariant.under lines start i u);
}

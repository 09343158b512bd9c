use Rattle.std.proofs.Common.{◌∙◌, arith}
use Rattle.beside_runner.proofs.serving.serve.Goals as goal

pub serve_one-requires-clause-under : goal.serve_one-requires-clause-under
serve_one-requires-clause-under g c = let u = c.requires.under in (u.0, u.1, u.2, c.loop-left.invariant.under u.0 u.1 u.2 u.3)

pub loop-left-preserved : goal.loop-left-preserved
loop-left-preserved g c = record {
  within = omega (arith, c.loop-left.invariant.within, c.serve_one.ensures.left);
  room = c.serve_one.ensures.room ∙ c.loop-left.invariant.room;
  between = c.serve_one.ensures.between;
  holds = c.serve_one.ensures.holds;
  under = λ lines start i u. c.serve_one.ensures.under lines start i (c.loop-left.invariant.under lines start i u);
}

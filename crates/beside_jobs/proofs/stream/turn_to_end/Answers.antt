use Rattle.std.proofs.Common.{◌∙◌}
use Rattle.beside_jobs.proofs.stream.turn_to_end.Goals as goal

pub turn-requires : goal.turn-requires
turn-requires g c = let q = c.requires in (q.0, q.1, c.loop.invariant.beside q.0 q.1 q.2)

pub returns-in-Err-clause-come : goal.returns-in-Err-clause-come
returns-in-Err-clause-come g c r first h = c.in-Err.ensures.err r first (c.loop.invariant.beside r first h)

pub loop-preserved-in-Ok-Moved : goal.loop-preserved-in-Ok-Moved
loop-preserved-in-Ok-Moved g c = record {
  room = c.turn.ensures.room ∙ c.loop.invariant.room;
  beside = λ r first h. c.in-Ok-Moved.ensures.ok r first (c.loop.invariant.beside r first h);
}

pub loop-preserved : goal.loop-preserved
loop-preserved g c = record {
  room = c.turn.ensures.room ∙ c.loop.invariant.room;
  beside = λ r first h. c.in-Ok.ensures.ok r first (c.loop.invariant.beside r first h);
}

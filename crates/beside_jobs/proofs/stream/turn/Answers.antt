use Rattle.std.proofs.Common.{◌∙◌, arith}
use Rattle.pipe_backup.specs.Piping.{IsPiping, HasCome}
use Rattle.beside_jobs.proofs.Beside.{feeds, beside_on, beside_so}
use Rattle.beside_jobs.proofs.stream.turn.Goals as goal

pub feed_at-turn-requires-clause-job : goal.feed_at-turn-requires-clause-job
feed_at-turn-requires-clause-job g c =
    let q = c.requires in
    feeds q.0 q.1 (λ s. g.I.Source.told s) c.loop-left.running.items c.loop-left.keeper c.args.piping.now (c.loop-left.invariant.beside q.0 q.1 q.2)

pub loop-left-preserved : goal.loop-left-preserved
loop-left-preserved g c = record {
  within = omega (arith, c.loop-left.invariant.within, c.feed_at-turn.ensures.many);
  room = c.feed_at-turn.ensures.room ∙ c.loop-left.invariant.room;
  beside = λ r first h. beside_on r first (λ s. g.I.Source.told s) c.loop-left.running.items c.feed_at-turn.new.running.items c.loop-left.keeper c.feed_at-turn.new.keeper c.args.piping.now c.feed_at-turn.ensures.loaded c.feed_at-turn.ensures.restores (c.loop-left.invariant.beside r first h);
}

pub loop-left-preserved-then-eq : goal.loop-left-preserved-then-eq
loop-left-preserved-then-eq g c = record {
  within = omega (arith, c.loop-left.invariant.within, c.feed_at-turn.ensures.many);
  room = c.feed_at-turn.ensures.room ∙ c.loop-left.invariant.room;
  beside = λ r first h. beside_on r first (λ s. g.I.Source.told s) c.loop-left.running.items c.feed_at-turn.new.running.items c.loop-left.keeper c.feed_at-turn.new.keeper c.args.piping.now c.feed_at-turn.ensures.loaded c.feed_at-turn.ensures.restores (c.loop-left.invariant.beside r first h);
}

pub step_piped-requires : goal.step_piped-requires
step_piped-requires g c = let q = c.requires in let h = c.loop-left.invariant.beside q.0 q.1 q.2 in (h.began, h.so)

pub returns-in-Err-clause-err : goal.returns-in-Err-clause-err
returns-in-Err-clause-err g c r first h =
    beside_so r first c.loop-left.running.items (λ b. IsPiping b (λ s. g.I.Source.told s) c.loop-left.keeper c.args.piping.now) (λ b. HasCome b (λ s. g.I.Source.told s) c.step_piped.new.keeper c.step_piped.new.piping c.in-Err.ended)
    c.in-Err.ensures.err (c.loop-left.invariant.beside r first h)

pub returns-in-Ok-Moved-clause-ok : goal.returns-in-Ok-Moved-clause-ok
returns-in-Ok-Moved-clause-ok g c r first h =
    beside_so r first c.loop-left.running.items (λ b. IsPiping b (λ s. g.I.Source.told s) c.loop-left.keeper c.args.piping.now) (λ b. IsPiping b (λ s. g.I.Source.told s) c.step_piped.new.keeper c.step_piped.new.piping)
    c.in-Ok-Moved.ensures.ok (c.loop-left.invariant.beside r first h)

pub returns-in-Ok : goal.returns-in-Ok
returns-in-Ok g c = record {
  ok = λ r first h. beside_so r first c.loop-left.running.items (λ b. IsPiping b (λ s. g.I.Source.told s) c.loop-left.keeper c.args.piping.now) (λ b. IsPiping b (λ s. g.I.Source.told s) c.step_piped.new.keeper c.step_piped.new.piping)
      c.in-Ok.ensures.ok (c.loop-left.invariant.beside r first h);
  err = λ r first h. tt;
  room = c.loop-left.invariant.room;
}

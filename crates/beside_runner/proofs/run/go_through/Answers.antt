use Rattle.std.proofs.Common.{◌∙◌, map}
use Rattle.beside_laws.specs.Progress.Underway.{answers_line, part}
use Rattle.beside_runner.proofs.run.go_through.Goals as goal

pub returns-in-Answered-clause-under : goal.returns-in-Answered-clause-under
returns-in-Answered-clause-under g c lines start i answers below here u =
    answers_line i answers (map g.E.RunningRestore.past c.feed_all-fed.new.running.items) (g.W.World.now c.feed_all-fed.new.world) (g.W.World.now c.go_on.new.self) c.args.line.now c.in-Answered.answer below here c.in-Answered.ensures.on
    (c.feed_all-fed.ensures.under c.args.limits.now lines start i answers (c.loop.invariant.under lines start i answers u))

pub loop-preserved-in-Moved : goal.loop-preserved-in-Moved
loop-preserved-in-Moved g c = record {
  room = c.feed_all-fed.ensures.room ∙ c.loop.invariant.room;
  within = c.in-Moved.ensures.line;
  holds = c.in-Moved.ensures.holds c.feed_all-fed.new.running.items c.feed_all-fed.ensures.holds;
  under = λ lines start i answers u.
      part i answers (map g.E.RunningRestore.past c.feed_all-fed.new.running.items) (g.W.World.now c.feed_all-fed.new.world) (g.W.World.now c.go_on.new.self) c.in-Moved.ensures.on
      (c.feed_all-fed.ensures.under c.args.limits.now lines start i answers (c.loop.invariant.under lines start i answers u));
}

pub loop-preserved-then-eq : goal.loop-preserved-then-eq
loop-preserved-then-eq g c = record {
  room = c.feed_all-fed.ensures.room ∙ c.loop.invariant.room;
  within = c.in-Idle.ensures.line;
  holds = c.in-Idle.ensures.holds c.feed_all-fed.new.running.items c.feed_all-fed.ensures.holds;
  under = λ lines start i answers u.
      part i answers (map g.E.RunningRestore.past c.feed_all-fed.new.running.items) (g.W.World.now c.feed_all-fed.new.world) (g.W.World.now c.go_on.new.self) c.in-Idle.ensures.on
      (c.feed_all-fed.ensures.under c.args.limits.now lines start i answers (c.loop.invariant.under lines start i answers u));
}

pub loop-preserved : goal.loop-preserved
loop-preserved g c = record {
  room = c.feed_all-fed.ensures.room ∙ c.loop.invariant.room;
  within = c.in-Idle.ensures.line;
  holds = c.in-Idle.ensures.holds c.feed_all-fed.new.running.items c.feed_all-fed.ensures.holds;
  under = λ lines start i answers u.
      part i answers (map g.E.RunningRestore.past c.feed_all-fed.new.running.items) (g.W.World.now c.feed_all-fed.new.world) (g.W.World.now c.go_on.new.self) c.in-Idle.ensures.on
      (c.feed_all-fed.ensures.under c.args.limits.now lines start i answers (c.loop.invariant.under lines start i answers u));
}

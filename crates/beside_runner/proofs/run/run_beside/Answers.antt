use Rattle.std.proofs.Common.{◌≡◌, ◌<◌, length, map, [], List, ap, subst, arith}
use Rattle.beside_laws.specs.Progress.{Underway}
use Rattle.beside_laws.specs.Progress.Underway.{begins}
use Rattle.beside_laws.specs.Running.{Past}
use Rattle.beside_laws.proofs.Whole.{runs_at_end}
use Rattle.beside_runner.proofs.Served.{none_left}
use Rattle.beside_runner.proofs.run.run_beside.Goals as goal

pub loop-at-init : goal.loop-at-init
loop-at-init g c =
    let long : length c.in_ok-answers.answers.items ≡ length c.args.lines.now = omega (arith, c.in_ok-answers.ensures.len, c.in_ok-answers.answers.ok) in
    record {
      within = omega arith;
      room = omega (arith, c.in_ok-running.ensures.capacity);
      between = c.requires.between;
      holds = rw c.in_ok-running.ensures.items c.requires.alone;
      under = rw c.in_ok-running.ensures.items (begins c.in_ok-answers.answers.items c.requires.apart long);
    }

pub step-requires-clause-under : goal.step-requires-clause-under
step-requires-clause-under g c = (
  g.W.World.now c.args.world.now,
  c.make_room.ensures.under c.args.lines.now (g.W.World.now c.args.world.now) c.loop-at.at c.loop-at.invariant.under,
)

pub returns-clause-runs : goal.returns-clause-runs
returns-clause-runs g c =
    let all : c.loop-at.at ≡ length c.args.lines.now = omega (arith, c.loop-at.invariant.within, c.loop-at-test.false) in
    let few : length c.serve_until.new.running.items < 1 = omega (arith, c.serve_until.ensures.done, c.serve_until.new.running.ok) in
    let none = none_left c.serve_until.new.running.items few in
    let last = c.serve_until.ensures.under c.args.lines.now (g.W.World.now c.args.world.now) c.loop-at.at c.loop-at.invariant.under in
    let alone : g.W.World.holds c.serve_until.new.world [] = subst (λ (xs : List g.row.E.Denot). g.W.World.holds c.serve_until.new.world xs) none c.serve_until.ensures.holds in
    runs_at_end g.K.PinnedKeeper.shelf g.K.PinnedKeeper.keeps g.K.PinnedKeeper.strays g.K.PinnedKeeper.keeps_is c.args.limits.now c.args.lines.now (g.W.World.now c.args.world.now) c.serve_until.new.answers.items (g.W.World.now c.serve_until.new.world)
    (λ T other keeps name stray. g.met.W.World.strays_known c.serve_until.new.world alone c.serve_until.ensures.between T other keeps name stray)
    (subst (λ n. Underway g.K.PinnedKeeper.shelf g.K.PinnedKeeper.keeps g.K.PinnedKeeper.strays c.args.limits.now c.args.lines.now (g.W.World.now c.args.world.now) n c.serve_until.new.answers.items [] (g.W.World.now c.serve_until.new.world)) all
    (subst (λ (P : List (Past g.row.K.Denot)). Underway g.K.PinnedKeeper.shelf g.K.PinnedKeeper.keeps g.K.PinnedKeeper.strays c.args.limits.now c.args.lines.now (g.W.World.now c.args.world.now) c.loop-at.at c.serve_until.new.answers.items P (g.W.World.now c.serve_until.new.world))
    (ap (map g.E.RunningRestore.past) none) last))

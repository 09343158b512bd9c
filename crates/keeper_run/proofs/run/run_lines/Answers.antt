use Rattle.std.proofs.Common.{◌≡◌, ◌<◌, length, map, [], List, ap, subst, arith}
use Rattle.beside_laws.specs.Progress.{Underway}
use Rattle.beside_laws.specs.Progress.Underway.{begins}
use Rattle.beside_laws.specs.Running.{Past}
use Rattle.beside_laws.proofs.Whole.{runs_at_end}
use Rattle.beside_runner.proofs.Served.{none_left}
use Rattle.store_model.specs.Steps.{Moment}
use Rattle.keeper_catalog.specs.View.{View}
use Rattle.keeper_core.specs.Keeping.{IsKnownStray}
use Rattle.restore_turns.specs.Entry.{IsStateBeside}
use Rattle.beside_steps.specs.Holding.{BesideView, Holds, past_of}
use Rattle.beside_steps.specs.Kept.{kept_beside, known_where_none_runs, none_pinned}
use Rattle.beside_jobs.specs.Under.{told_of, IsUnder}
use Rattle.keeper_run.proofs.Turns.{none_hold}
use Rattle.keeper_run.proofs.run.run_lines.Goals as goal

pub loop-at-init : goal.loop-at-init
loop-at-init g c =
    let long : length c.in_ok-answers.answers.items ≡ length c.args.lines.now = omega (arith, c.in_ok-answers.ensures.len, c.in_ok-answers.answers.ok) in
    record {
      within = omega arith;
      room = omega (arith, c.in_ok-running.ensures.capacity);
      holds = rw c.in_ok-running.ensures.items (none_hold c.args.keeper.now (g.P.Places.told c.args.places.now).files c.requires.alone.0 c.requires.alone.1);
      under = rw c.in_ok-running.ensures.items (begins c.in_ok-answers.answers.items c.requires.apart long);
    }

pub one_line-requires-clause-under : goal.one_line-requires-clause-under
one_line-requires-clause-under g c κs within =
    let start : Moment View = record { keeper = c.args.keeper.now; places = g.P.Places.told c.args.places.now } in (start, c.make_room.ensures.under c.args.lines.now start c.loop-at.at c.loop-at.invariant.under)

pub returns-clause-runs : goal.returns-clause-runs
returns-clause-runs g c =
    let start : Moment View = record { keeper = c.args.keeper.now; places = g.P.Places.told c.args.places.now } in
    let v = c.serve_until.new.keeper in
    let q = g.P.Places.told c.serve_until.new.places in
    let all : c.loop-at.at ≡ length c.args.lines.now = omega (arith, c.loop-at.invariant.within, c.loop-at-test.false) in
    let few : length c.serve_until.new.running.items < 1 = omega (arith, c.serve_until.ensures.done, c.serve_until.new.running.ok) in
    let none = none_left c.serve_until.new.running.items few in
    let last = c.serve_until.ensures.under c.args.lines.now start c.loop-at.at c.loop-at.invariant.under in
    let alone : Holds v q.files [] = subst (λ (es : List BesideView). Holds v q.files es) none c.serve_until.ensures.holds in
    runs_at_end told_of IsStateBeside IsKnownStray kept_beside c.args.limits.now c.args.lines.now start c.serve_until.new.answers.items (record { keeper = v; places = q })
    (λ T other keep name stray. known_where_none_runs v q.files alone T other keep name stray)
    (subst (λ n. Underway told_of IsStateBeside IsKnownStray c.args.limits.now c.args.lines.now start n c.serve_until.new.answers.items [] (record { keeper = v; places = q })) all
    (subst (λ (P : List (Past View)). Underway told_of IsStateBeside IsKnownStray c.args.limits.now c.args.lines.now start c.loop-at.at c.serve_until.new.answers.items P (record { keeper = v; places = q })) (ap (map past_of) none) last))

pub returns-clause-alone : goal.returns-clause-alone
returns-clause-alone g c =
    let v = c.serve_until.new.keeper in
    let files = (g.P.Places.told c.serve_until.new.places).files in
    let few : length c.serve_until.new.running.items < 1 = omega (arith, c.serve_until.ensures.done, c.serve_until.new.running.ok) in
    let alone : Holds v files [] = subst (λ (es : List BesideView). Holds v files es) (none_left c.serve_until.new.running.items few) c.serve_until.ensures.holds in
    (alone.job, none_pinned v.pins alone.pins)

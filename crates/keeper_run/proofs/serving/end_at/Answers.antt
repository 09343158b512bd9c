use Rattle.std.proofs.Common.{◌<◌, ℕ, List, length, map, set, sym, subst, arith}
use Rattle.keeper_core.specs.Keeping.{IsKnownStray}
use Rattle.restore_turns.specs.Entry.{IsStateBeside}
use Rattle.beside_runner.proofs.Served.{held_less, under_ended, under_stands}
use Rattle.beside_steps.specs.Holding.{BesideView, Holds, past_of}
use Rattle.beside_steps.specs.Kept.{kept_beside}
use Rattle.beside_jobs.specs.Under.{told_of, IsUnder}
use Rattle.beside_steps.proofs.Held.{one_at}
use Rattle.keeper_run.proofs.serving.end_at.Goals as goal

pub end_restore-answer-requires-clause-one : goal.end_restore-answer-requires-clause-one
end_restore-answer-requires-clause-one g c κs within =
    let here : c.args.at < length c.args.running.now.items = omega (arith, c.requires.here, c.args.running.now.ok) in
    one_at c.args.keeper.now (g.P.Places.told c.args.places.now).files c.args.running.now.items c.args.at c.remove-entry.result here c.remove-entry.ensures.value c.requires.holds

pub end_restore-answer-requires-clause-there : goal.end_restore-answer-requires-clause-there
end_restore-answer-requires-clause-there g c κs within =
    let here : c.args.at < length c.args.running.now.items = omega (arith, c.requires.here, c.args.running.now.ok) in
    let u = c.requires.under in
    (under_stands told_of IsStateBeside IsKnownStray c.args.limits.now u.0 u.1 past_of u.2 c.args.answers.now.items kept_beside c.args.running.now.items c.args.at c.remove-entry.result
    (record { keeper = c.args.keeper.now; places = g.P.Places.told c.args.places.now }) here c.remove-entry.ensures.value u.3).0

pub index_mut-requires : goal.index_mut-requires
index_mut-requires g c =
    let here : c.args.at < length c.args.running.now.items = omega (arith, c.requires.here, c.args.running.now.ok) in
    let u = c.requires.under in
    let low = (under_stands told_of IsStateBeside IsKnownStray c.args.limits.now u.0 u.1 past_of u.2 c.args.answers.now.items kept_beside c.args.running.now.items c.args.at c.remove-entry.result
    (record { keeper = c.args.keeper.now; places = g.P.Places.told c.args.places.now }) here c.remove-entry.ensures.value u.3).1 in
    omega (arith, low, c.place-place.ensures, c.args.answers.now.ok)

pub returns-clause-under : goal.returns-clause-under
returns-clause-under g c lines start i u =
    let here : c.args.at < length c.args.running.now.items = omega (arith, c.requires.here, c.args.running.now.ok) in
    let v = c.args.keeper.now in
    let x = c.end_restore-answer.new.keeper in
    let p = g.P.Places.told c.args.places.now in
    let q = g.P.Places.told c.end_restore-answer.new.places in
    subst (λ (n : ℕ). IsUnder c.args.limits.now lines start i (set c.args.answers.now.items n c.end_restore-answer.result) c.remove-entry.new.self.items x q) (sym c.place-place.ensures)
    (subst (λ (es : List BesideView). IsUnder c.args.limits.now lines start i (set c.args.answers.now.items c.remove-entry.result.place c.end_restore-answer.result) es x q) (sym c.remove-entry.ensures.items)
    (under_ended told_of IsStateBeside IsKnownStray c.args.limits.now lines start past_of i c.args.answers.now.items c.args.running.now.items c.args.at c.remove-entry.result (record { keeper = v; places = p }) (record { keeper = x; places = q }) c.end_restore-answer.result here c.remove-entry.ensures.value c.end_restore-answer.ensures.ends u))

pub returns-clause-holds : goal.returns-clause-holds
returns-clause-holds g c =
    let here : c.args.at < length c.args.running.now.items = omega (arith, c.requires.here, c.args.running.now.ok) in
    let a = (g.P.Places.told c.args.places.now).files in
    let b = (g.P.Places.told c.end_restore-answer.new.places).files in
    subst (λ (es : List BesideView). Holds c.end_restore-answer.new.keeper b es) (sym c.remove-entry.ensures.items)
    (held_less (Holds c.args.keeper.now a) (Holds c.end_restore-answer.new.keeper b) c.args.running.now.items c.args.at c.remove-entry.result here c.remove-entry.ensures.value c.requires.holds c.end_restore-answer.ensures.holds)

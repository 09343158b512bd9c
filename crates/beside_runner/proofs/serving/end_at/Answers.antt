use Rattle.std.proofs.Common.{◌<◌, List, length, map, set, sym, subst, arith, ℕ}
use Rattle.beside_laws.specs.Progress.{Underway}
use Rattle.beside_runner.proofs.Served.{held_at, under_ended, under_stands}
use Rattle.beside_runner.proofs.serving.end_at.Goals as goal

pub end-answer-requires-clause-held : goal.end-answer-requires-clause-held
end-answer-requires-clause-held g c =
    let here : c.args.at < length c.args.running.now.items = omega (arith, c.requires.here, c.args.running.now.ok) in
    held_at (g.W.World.holds c.args.world.now) (g.W.World.holds c.args.world.now) c.args.running.now.items c.args.at c.remove-entry.result here c.remove-entry.ensures.value c.requires.holds

pub end-answer-requires-clause-there : goal.end-answer-requires-clause-there
end-answer-requires-clause-there g c =
    let here : c.args.at < length c.args.running.now.items = omega (arith, c.requires.here, c.args.running.now.ok) in
    let under = c.requires.under in
    (under_stands g.K.PinnedKeeper.shelf g.K.PinnedKeeper.keeps g.K.PinnedKeeper.strays c.args.limits.now under.0 under.1 g.E.RunningRestore.past under.2 c.args.answers.now.items
    g.K.PinnedKeeper.keeps_is c.args.running.now.items c.args.at c.remove-entry.result (g.W.World.now c.args.world.now) here c.remove-entry.ensures.value under.3).0

pub index_mut-requires : goal.index_mut-requires
index_mut-requires g c =
    let here : c.args.at < length c.args.running.now.items = omega (arith, c.requires.here, c.args.running.now.ok) in
    let under = c.requires.under in
    let low = (under_stands g.K.PinnedKeeper.shelf g.K.PinnedKeeper.keeps g.K.PinnedKeeper.strays c.args.limits.now under.0 under.1 g.E.RunningRestore.past under.2 c.args.answers.now.items
    g.K.PinnedKeeper.keeps_is c.args.running.now.items c.args.at c.remove-entry.result (g.W.World.now c.args.world.now) here c.remove-entry.ensures.value under.3).1 in
    omega (arith, low, c.place-place.ensures, c.args.answers.now.ok)

pub returns-clause-under : goal.returns-clause-under
returns-clause-under g c lines start i u =
    let here : c.args.at < length c.args.running.now.items = omega (arith, c.requires.here, c.args.running.now.ok) in
    subst (λ (n : ℕ). Underway g.K.PinnedKeeper.shelf g.K.PinnedKeeper.keeps g.K.PinnedKeeper.strays c.args.limits.now lines start i (set c.args.answers.now.items n c.end-answer.result)
    (map g.E.RunningRestore.past c.remove-entry.new.self.items) (g.W.World.now c.end-answer.new.self)) (sym c.place-place.ensures)
    (subst (λ (xs : List g.row.E.Denot). Underway g.K.PinnedKeeper.shelf g.K.PinnedKeeper.keeps g.K.PinnedKeeper.strays c.args.limits.now lines start i
    (set c.args.answers.now.items (g.E.RunningRestore.past c.remove-entry.result).place c.end-answer.result) (map g.E.RunningRestore.past xs) (g.W.World.now c.end-answer.new.self)) (sym c.remove-entry.ensures.items)
    (under_ended g.K.PinnedKeeper.shelf g.K.PinnedKeeper.keeps g.K.PinnedKeeper.strays c.args.limits.now lines start g.E.RunningRestore.past i c.args.answers.now.items
    c.args.running.now.items c.args.at c.remove-entry.result (g.W.World.now c.args.world.now) (g.W.World.now c.end-answer.new.self) c.end-answer.result here c.remove-entry.ensures.value c.end-answer.ensures.ends u))

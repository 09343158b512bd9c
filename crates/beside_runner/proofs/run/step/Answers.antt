use Rattle.std.proofs.Common.{map, arith}
use Rattle.beside_laws.specs.Progress.Underway.{answers_line, part}
use Rattle.beside_runner.proofs.Served.{under_begun, under_long}
use Rattle.beside_runner.proofs.run.step.Goals as goal

pub index_mut-requires : goal.index_mut-requires
index_mut-requires g c =
    let u = c.requires.under in
    let long = under_long g.K.PinnedKeeper.shelf g.K.PinnedKeeper.keeps g.K.PinnedKeeper.strays c.args.limits.now c.args.lines.now u.0 g.K.PinnedKeeper.keeps_is c.args.at c.args.answers.now.items (map g.E.RunningRestore.past c.args.running.now.items) (g.W.World.now c.args.world.now) u.1 in
    omega (arith, long, c.requires.here, c.args.answers.now.ok)

pub index_mut-requires-in-InParts : goal.index_mut-requires-in-InParts
index_mut-requires-in-InParts g c =
    let u = c.requires.under in
    let long = under_long g.K.PinnedKeeper.shelf g.K.PinnedKeeper.keeps g.K.PinnedKeeper.strays c.args.limits.now c.args.lines.now u.0 g.K.PinnedKeeper.keeps_is c.args.at c.args.answers.now.items (map g.E.RunningRestore.past c.args.running.now.items) (g.W.World.now c.args.world.now) u.1 in
    omega (arith, long, c.requires.here, c.args.answers.now.ok)

pub returns-in-Answered-clause-under : goal.returns-in-Answered-clause-under
returns-in-Answered-clause-under g c start u =
    answers_line c.args.at c.args.answers.now.items (map g.E.RunningRestore.past c.args.running.now.items) (g.W.World.now c.args.world.now) (g.W.World.now c.begin.new.self) c.index-lines-at.result c.in-Answered.answer c.requires.here c.index-lines-at.is c.in-Answered.ensures.begun u

pub returns-in-InParts-clause-under : goal.returns-in-InParts-clause-under
returns-in-InParts-clause-under g c start u =
    c.go_through-answer.ensures.under c.args.lines.now start c.args.at c.args.answers.now.items c.requires.here c.index-lines-at.is
    (part c.args.at c.args.answers.now.items (map g.E.RunningRestore.past c.args.running.now.items) (g.W.World.now c.args.world.now) (g.W.World.now c.begin.new.self) c.in-InParts.ensures.begun u)

pub returns-in-Ok-clause-under : goal.returns-in-Ok-clause-under
returns-in-Ok-clause-under g c start u =
    under_begun g.K.PinnedKeeper.shelf g.K.PinnedKeeper.keeps g.K.PinnedKeeper.strays c.args.limits.now c.args.lines.now start g.E.RunningRestore.past c.args.at c.args.answers.now.items
    c.args.running.now.items c.push.new.self.items c.in-Running.entry (g.W.World.now c.args.world.now) (g.W.World.now c.begin.new.self) c.index-lines-at.result c.requires.here c.index-lines-at.is c.in-Running.ensures.begun c.in-Ok.ensures.items u

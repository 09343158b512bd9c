use Rattle.std.proofs.Common.{◌<◌, length, arith}
use Rattle.beside_runner.proofs.Served.{held_at, held_set, under_on}
use Rattle.beside_runner.proofs.serving.feed_at.Goals as goal

pub feed-requires : goal.feed-requires
feed-requires g c =
    let here : c.args.at < length c.args.running.now.items = omega (arith, c.requires.here, c.args.running.now.ok) in
    record { held = held_at (g.W.World.holds c.args.world.now) (g.W.World.holds c.args.world.now) c.args.running.now.items c.args.at _ here c.index_mut.ensures.value c.requires.holds }

pub returns-clause-under : goal.returns-clause-under
returns-clause-under g c limits lines start i answers u =
    let here : c.args.at < length c.args.running.now.items = omega (arith, c.requires.here, c.args.running.now.ok) in
    under_on g.K.PinnedKeeper.shelf g.K.PinnedKeeper.keeps g.K.PinnedKeeper.strays limits lines start g.E.RunningRestore.past i answers
    c.args.running.now.items c.args.at _ c.feed.new.entry (g.W.World.now c.args.world.now) (g.W.World.now c.feed.new.self) here c.index_mut.ensures.value c.feed.ensures.on u

pub returns-clause-holds : goal.returns-clause-holds
returns-clause-holds g c =
    let here : c.args.at < length c.args.running.now.items = omega (arith, c.requires.here, c.args.running.now.ok) in
    held_set (g.W.World.holds c.args.world.now) (g.W.World.holds c.feed.new.self) c.args.running.now.items c.args.at _ here c.index_mut.ensures.value c.requires.holds c.feed.new.entry c.feed.ensures.holds

use Rattle.std.proofs.Common.{◌<◌, length, arith}
use Rattle.beside_runner.proofs.Served.{held_at, held_set, past_same}
use Rattle.beside_runner.proofs.serving.reply_at.Goals as goal

pub reply-requires : goal.reply-requires
reply-requires g c =
    let here : c.args.at < length c.args.running.now.items = omega (arith, c.requires.here, c.args.running.now.ok) in
    record { held = held_at (g.W.World.holds c.args.world.now) (g.W.World.holds c.args.world.now) c.args.running.now.items c.args.at _ here c.index_mut.ensures.value c.requires.holds }

pub returns-clause-past : goal.returns-clause-past
returns-clause-past g c =
    let here : c.args.at < length c.args.running.now.items = omega (arith, c.requires.here, c.args.running.now.ok) in
    past_same g.E.RunningRestore.past c.args.running.now.items c.args.at here _ c.reply.new.entry c.index_mut.ensures.value c.reply.ensures.past

pub returns-clause-holds : goal.returns-clause-holds
returns-clause-holds g c =
    let here : c.args.at < length c.args.running.now.items = omega (arith, c.requires.here, c.args.running.now.ok) in
    held_set (g.W.World.holds c.args.world.now) (g.W.World.holds c.args.world.now) c.args.running.now.items c.args.at _ here c.index_mut.ensures.value c.requires.holds c.reply.new.entry c.reply.ensures.holds

use Rattle.std.proofs.Common.{◌<◌, length, arith}
use Rattle.beside_runner.proofs.Served.{held_set, past_same}
use Rattle.beside_steps.specs.Holding.{Holds, past_of}
use Rattle.beside_steps.proofs.Held.{holds_replied}
use Rattle.beside_steps.proofs.Held.{one_at}
use Rattle.keeper_run.proofs.Turns.{past_replied}
use Rattle.keeper_run.proofs.serving.reply_at.Goals as goal

pub take_reply-requires : goal.take_reply-requires
take_reply-requires g c =
    let here : c.args.at < length c.args.running.now.items = omega (arith, c.requires.here, c.args.running.now.ok) in
    let r = c.requires.holds in
    (one_at r.0 r.1 c.args.running.now.items c.args.at _ here c.index_mut.ensures.value r.2).unreplied

pub returns-clause-past : goal.returns-clause-past
returns-clause-past g c =
    let here : c.args.at < length c.args.running.now.items = omega (arith, c.requires.here, c.args.running.now.ok) in
    past_same past_of c.args.running.now.items c.args.at here _ c.take_reply.new.entry c.index_mut.ensures.value (past_replied _ c.take_reply.new.entry c.take_reply.ensures.same)

pub returns-clause-holds : goal.returns-clause-holds
returns-clause-holds g c v files h =
    let here : c.args.at < length c.args.running.now.items = omega (arith, c.requires.here, c.args.running.now.ok) in
    held_set (Holds v files) (Holds v files) c.args.running.now.items c.args.at _ here c.index_mut.ensures.value h c.take_reply.new.entry (holds_replied v files _ c.take_reply.new.entry c.take_reply.ensures.same)

use Rattle.std.proofs.Common.{◌<◌, length, arith}
use Rattle.beside_steps.proofs.Held.{one_at}
use Rattle.beside_jobs.proofs.Fed.{running_now, runs_on, fed_loads}
use Rattle.beside_jobs.proofs.feeding.feed_at.Goals as goal

pub feed_restore-requires : goal.feed_restore-requires
feed_restore-requires g c =
    let here : c.args.at < length c.args.running.now.items = omega (arith, c.requires.here, c.args.running.now.ok) in
    let r = c.requires.job in
    running_now r.0 c.args.keeper.now r.1 r.3 r.2 _ (one_at r.0.keeper r.2 c.args.running.now.items c.args.at _ here c.index_mut.ensures.value r.4)

pub returns-clause-loaded : goal.returns-clause-loaded
returns-clause-loaded g c = fed_loads c.args.keeper.now c.feed_restore.new.keeper _ _ c.feed_restore.ensures.fed

pub returns-clause-restores : goal.returns-clause-restores
returns-clause-restores g c b containers r u h =
    let here : c.args.at < length c.args.running.now.items = omega (arith, c.requires.here, c.args.running.now.ok) in
    let e = c.feed_restore.ensures in
    runs_on b c.args.keeper.now containers u c.feed_restore.new.keeper r c.args.running.now.items c.args.at c.index_mut.result.now c.feed_restore.new.entry here c.index_mut.ensures.value e.fed e.rest.0 e.rest.1 e.rest.2 e.running h

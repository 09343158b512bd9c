use Rattle.std.proofs.Common.{◌<◌, length, arith}
use Rattle.keeper_core.specs.Keeping.{IsKnownStray}
use Rattle.restore_turns.specs.Entry.{IsStateBeside}
use Rattle.beside_runner.proofs.Served.{held_set, under_on}
use Rattle.beside_steps.specs.Holding.{Holds, past_of}
use Rattle.beside_steps.proofs.Going.{gone_on, holds_fed}
use Rattle.beside_jobs.specs.Under.{told_of}
use Rattle.beside_steps.proofs.Held.{one_at}
use Rattle.keeper_run.proofs.serving.feed_at.Goals as goal

pub feed_restore-requires : goal.feed_restore-requires
feed_restore-requires g c =
    let here : c.args.at < length c.args.running.now.items = omega (arith, c.requires.here, c.args.running.now.ok) in
    let r = c.requires.holds in
    (one_at c.args.keeper.now r.0 c.args.running.now.items c.args.at _ here c.index_mut.ensures.value r.1).running

pub returns-clause-under : goal.returns-clause-under
returns-clause-under g c limits lines start i answers places u =
    let here : c.args.at < length c.args.running.now.items = omega (arith, c.requires.here, c.args.running.now.ok) in
    let v = c.args.keeper.now in
    let w = c.feed_restore.new.keeper in
    let e = c.feed_restore.ensures in
    under_on told_of IsStateBeside IsKnownStray limits lines start past_of i answers c.args.running.now.items c.args.at c.index_mut.result.now c.feed_restore.new.entry (record { keeper = v; places = places }) (record { keeper = w; places = places }) here c.index_mut.ensures.value
    (gone_on v w places c.index_mut.result.now c.feed_restore.new.entry e.fed e.rest.0 e.rest.1) u

pub returns-clause-holds : goal.returns-clause-holds
returns-clause-holds g c places h =
    let here : c.args.at < length c.args.running.now.items = omega (arith, c.requires.here, c.args.running.now.ok) in
    let v = c.args.keeper.now in
    let w = c.feed_restore.new.keeper in
    let e = c.feed_restore.ensures in
    held_set (Holds v places.files) (Holds w places.files) c.args.running.now.items c.args.at c.index_mut.result.now here c.index_mut.ensures.value h c.feed_restore.new.entry (holds_fed v w places c.index_mut.result.now c.feed_restore.new.entry e.fed e.rest.2 e.running)

use Rattle.std.proofs.Common.{refl}
use Rattle.running_restore.proofs.Loads.{asks_at, load_stays, loaded_at, failed_at}
use Rattle.running_restore.proofs.loading.load_at.Goals as goal

pub load-requires : goal.load-requires
load-requires g c =
    let r = c.requires.entry in
    asks_at r.0 c.args.keeper.now c.args.keeper.now c.args.no.now r.1 c.args.ids.now c.args.at r.2 r.3 r.4 r.5 c.requires.here

pub returns-in-Ok-clause-stays : goal.returns-in-Ok-clause-stays
returns-in-Ok-clause-stays g c =
    let r = c.requires.entry in
    let a = asks_at r.0 c.args.keeper.now c.args.keeper.now c.args.no.now r.1 c.args.ids.now c.args.at r.2 r.3 r.4 r.5 c.requires.here in
    load_stays c.args.keeper.now c.load.new.self c.load.ensures.keeps c.load.ensures.same c.load.ensures.shelf (c.load.ensures.causes a.0 a.1 a.2 a.3).later

pub returns-in-Ok-clause-loaded : goal.returns-in-Ok-clause-loaded
returns-in-Ok-clause-loaded g c u spots met sent e going =
    let a = asks_at u c.args.keeper.now c.args.keeper.now c.args.no.now spots c.args.ids.now c.args.at met sent e going c.requires.here in
    loaded_at u c.args.keeper.now c.load.new.self c.args.no.now spots c.args.ids.now c.args.at met sent e going c.requires.here
    (load_stays c.args.keeper.now c.load.new.self c.load.ensures.keeps c.load.ensures.same c.load.ensures.shelf (c.load.ensures.causes a.0 a.1 a.2 a.3).later)
    _ refl c.in-Ok.ensures.given c.in-Ok.ensures.whole

pub returns-in-Err-clause-stays : goal.returns-in-Err-clause-stays
returns-in-Err-clause-stays g c =
    let r = c.requires.entry in
    let a = asks_at r.0 c.args.keeper.now c.args.keeper.now c.args.no.now r.1 c.args.ids.now c.args.at r.2 r.3 r.4 r.5 c.requires.here in
    load_stays c.args.keeper.now c.load.new.self c.load.ensures.keeps c.load.ensures.same c.load.ensures.shelf (c.load.ensures.causes a.0 a.1 a.2 a.3).later

pub returns-in-Err-clause-loaded : goal.returns-in-Err-clause-loaded
returns-in-Err-clause-loaded g c u spots met sent e going =
    let a = asks_at u c.args.keeper.now c.args.keeper.now c.args.no.now spots c.args.ids.now c.args.at met sent e going c.requires.here in
    failed_at u c.args.keeper.now c.load.new.self c.args.no.now spots c.args.ids.now c.args.at met sent e going c.requires.here
    (load_stays c.args.keeper.now c.load.new.self c.load.ensures.keeps c.load.ensures.same c.load.ensures.shelf (c.load.ensures.causes a.0 a.1 a.2 a.3).later)
    c.in-Err.fault (λ J d keeps lists. (c.in-Err.ensures.causes J d keeps lists).each)

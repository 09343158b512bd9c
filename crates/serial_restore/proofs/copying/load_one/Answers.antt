use Rattle.serial_restore.specs.Going.{StopsAt}
use Rattle.serial_restore.proofs.Loads.{load_needs, load_stays, covered, full_one, wanted_one, stops_load, loads_one, stops_give, stopped_as}
use Rattle.serial_restore.proofs.copying.load_one.Goals as goal

pub load-requires : goal.load-requires
load-requires g c = load_needs c.args.keeper.now c.args.keeper.now c.args.no.now c.args.id c.args.copier.now c.requires.next c.requires.among c.requires.pinned.0 c.requires.pinned.1

pub returns-in_err-payload-clause-err : goal.returns-in_err-payload-clause-err
returns-in_err-payload-clause-err g c =
    let v = c.args.keeper.now in
    let w = c.load.new.self in
    let s = c.args.copier.now in
    let K = c.requires.pinned.0 in
    let pinned = c.requires.pinned.1 in
    let told = g.O.Sink.told c.args.sink.now in
    let stays = load_stays v w c.args.no.now c.args.id s c.requires.next c.requires.among K pinned c.load.result c.load.ensures.keeps c.load.ensures.same c.load.ensures.shelf c.load.ensures.causes in
    stopped_as (StopsAt v w c.args.no.now told told s) c.from_residual.result c.in_err-payload.field-0.0 c.from_residual.ensures.1
    (stops_load v w c.args.no.now c.args.id s c.requires.next c.requires.among K pinned told told stays c.load.ensures.shelf.2 c.in_err-payload.field-0.0 (λ J d keeps lists. (c.in_err-payload.ensures.causes J d keeps lists).each))

pub give-requires : goal.give-requires
give-requires g c = covered c.args.keeper.now c.load.new.self c.args.no.now c.args.id c.args.copier.now c.requires.next c.requires.among c.requires.pinned.0 c.requires.pinned.1 c.in_ok-payload.payload.items c.in_ok-payload.ensures.whole

pub returns-clause-ok : goal.returns-clause-ok
returns-clause-ok g c =
    let v = c.args.keeper.now in
    let w = c.load.new.self in
    let no = c.args.no.now in
    let id = c.args.id in
    let s = c.args.copier.now in
    let next = c.requires.next in
    let among = c.requires.among in
    let K = c.requires.pinned.0 in
    let pinned = c.requires.pinned.1 in
    let bytes = c.in_ok-payload.payload.items in
    let whole = c.in_ok-payload.ensures.whole in
    let given = c.in_ok-payload.ensures.given in
    let stays = load_stays v w no id s next among K pinned c.load.result c.load.ensures.keeps c.load.ensures.same c.load.ensures.shelf c.load.ensures.causes in
    loads_one v w no id s next among K pinned (g.O.Sink.told c.args.sink.now) (g.O.Sink.told c.give.new.sink) bytes (wanted_one v w no id s next among K pinned bytes whole given)
    c.give.result c.give.new.self stays c.load.ensures.shelf.2 (full_one v w no id s next among K pinned bytes whole given) c.give.ensures.spots c.give.ensures.whole
    c.give.ensures.later c.give.ensures.loads c.give.ensures.behind c.give.ensures.ok c.give.ensures.sum

pub returns-clause-err : goal.returns-clause-err
returns-clause-err g c =
    let v = c.args.keeper.now in
    let w = c.load.new.self in
    let no = c.args.no.now in
    let id = c.args.id in
    let s = c.args.copier.now in
    let next = c.requires.next in
    let among = c.requires.among in
    let K = c.requires.pinned.0 in
    let pinned = c.requires.pinned.1 in
    let bytes = c.in_ok-payload.payload.items in
    let whole = c.in_ok-payload.ensures.whole in
    let given = c.in_ok-payload.ensures.given in
    let stays = load_stays v w no id s next among K pinned c.load.result c.load.ensures.keeps c.load.ensures.same c.load.ensures.shelf c.load.ensures.causes in
    stops_give v w no id s next among K pinned (g.O.Sink.told c.args.sink.now) (g.O.Sink.told c.give.new.sink) bytes (wanted_one v w no id s next among K pinned bytes whole given)
    c.give.result stays c.give.ensures.later c.load.ensures.shelf.2 c.give.ensures.cause c.give.ensures.err

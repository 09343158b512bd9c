use Rattle.std.proofs.Common.{◌∙◌, ◌≤◌, sym, refl}
use Rattle.vault_types.specs.Plans.{loads}
use Rattle.serial_restore.specs.Going.{IsRestoreStopped}
use Rattle.serial_restore.proofs.Loads.{stopped_as, begins, way_needs, way_among, goes_on, stops, ends, fewer_left}
use Rattle.serial_restore.proofs.copying.copy_all.Goals as goal

pub loop-id-init : goal.loop-id-init
loop-id-init g c = begins c.args.keeper.now c.args.no.now (g.O.Sink.told c.args.sink.now) c.args.copier c.requires.fresh

pub load_one-requires : goal.load_one-requires
load_one-requires g c =
    let v = c.args.keeper.now in
    let told = g.O.Sink.told in
    let next = sym c.wants.ensures.next ∙ c.in-Some.is in
    record {
      next = next;
      among = way_among v c.args.no.now (told c.args.sink.now) c.args.copier c.loop-id.keeper (told c.loop-id.sink) c.loop-id.copier c.loop-id.invariant c.in-Some.id c.requires.loads next;
      pinned = way_needs v c.args.no.now (told c.args.sink.now) c.args.copier c.loop-id.keeper (told c.loop-id.sink) c.loop-id.copier c.loop-id.invariant c.requires.pinned;
    }

pub loop-id-preserved : goal.loop-id-preserved
loop-id-preserved g c =
    let told = g.O.Sink.told in
    let next = sym c.wants.ensures.next ∙ c.in-Some.is in
    goes_on c.args.keeper.now c.args.no.now (told c.args.sink.now) c.args.copier c.loop-id.keeper (told c.loop-id.sink) c.loop-id.copier c.loop-id.invariant c.load_one.new.keeper (told c.load_one.new.sink) c.in-Some.id next
    c.load_one.new.copier c.in_ok-load_one.ensures.ok

pub loop-id-smaller : goal.loop-id-smaller
loop-id-smaller g c = fewer_left (loads c.load_one.new.copier.steps) (loads c.loop-id.copier.steps) c.in_ok-load_one.ensures.ok.fewer

pub returns-in_err-load_one-clause-err : goal.returns-in_err-load_one-clause-err
returns-in_err-load_one-clause-err g c =
    let v = c.args.keeper.now in
    let s = c.args.copier in
    let told = g.O.Sink.told in
    let next = sym c.wants.ensures.next ∙ c.in-Some.is in
    stopped_as (IsRestoreStopped v c.load_one.new.keeper c.args.no.now (told c.args.sink.now) (told c.load_one.new.sink) s.spots s.whole (λ m. m ≤ loads s.steps)) c.from_residual.result c.in_err-load_one.field-0.0 c.from_residual.ensures.1
    (stops v c.args.no.now (told c.args.sink.now) s c.loop-id.keeper (told c.loop-id.sink) c.loop-id.copier c.loop-id.invariant c.load_one.new.keeper (told c.load_one.new.sink) c.in-Some.id next c.in_err-load_one.field-0.0 c.in_err-load_one.ensures.err)

pub returns-clause-ok : goal.returns-clause-ok
returns-clause-ok g c =
    let told = g.O.Sink.told in
    ends c.args.keeper.now c.args.no.now (told c.args.sink.now) c.args.copier c.loop-id.keeper (told c.loop-id.sink) c.loop-id.copier c.loop-id.invariant c.requires.start (sym c.in_default.ensures.next) (c.in_default.ensures.done.0 refl) (c.in_default.ensures.served refl) (c.in_default.ensures.all refl)

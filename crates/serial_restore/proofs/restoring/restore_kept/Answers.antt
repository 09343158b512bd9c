use Rattle.std.proofs.Common.{subst, map, Option}
use Rattle.vault_types.specs.declared.Answer.{Answer}
use Rattle.vault_types.specs.declared.Fault.{Fault}
use Rattle.std.specs.Prelude.{Result}
use Rattle.vault_types.specs.declared.Whole.{Whole}
use Rattle.vault_types.specs.Plans.{requests}
use Rattle.serial_restore.specs.Going.{IsCopied, IsRestoreStopped, IsAtMostLeast}
use Rattle.serial_restore.specs.Restoring.{HasGone}
use Rattle.serial_restore.proofs.Goings.{pinned_core, can_release, gone_as, pin_gone, copied_gone, stopped_gone}
use Rattle.serial_restore.proofs.restoring.restore_kept.Goals as goal

pub copy_pinned-copied-requires : goal.copy_pinned-copied-requires
copy_pinned-copied-requires g c = record {
  some = c.requires.some;
  few = c.requires.few;
  pinned = pinned_core c.pin.new.self c.in_ok-no.field-0.no c.in_ok-no.field-0.spots.items c.pin.ensures.core c.in_ok-no.ensures.lists;
}

pub release-requires : goal.release-requires
release-requires g c = can_release c.args.keeper.now c.pin.new.self c.copy_pinned-copied.new.keeper c.in_ok-no.field-0.no c.args.version _ _ _ _ _ _ _ c.in_ok-no.ensures.given c.copy_pinned-copied.ensures.ok c.copy_pinned-copied.ensures.err

pub returns-in_err-no : goal.returns-in_err-no
returns-in_err-no g c =
    let told = g.O.Sink.told c.args.sink.now in
    gone_as (λ (r : Result Answer Fault). HasGone c.args.keeper.now c.pin.new.self told told c.args.set c.args.version c.args.slots r) c.from_residual.result c.in_err-no.field-0.0 c.from_residual.ensures.1
    (pin_gone c.args.keeper.now c.pin.new.self told c.args.set c.args.version c.args.slots c.in_err-no.field-0.0 c.keeps_some_core.ensures c.in_err-no.ensures.err c.pin.ensures.same c.pin.ensures.shelf
    (λ K keeps. (c.in_err-no.ensures.causes K keeps).later) (λ K keeps. (c.in_err-no.ensures.causes K keeps).each))

pub returns-in-Ok : goal.returns-in-Ok
returns-in-Ok g c =
    let told = g.O.Sink.told in
    let p = c.in_ok-no.field-0 in
    copied_gone c.args.keeper.now c.pin.new.self c.copy_pinned-copied.new.keeper c.release.new.self (told c.args.sink.now) (told c.copy_pinned-copied.new.sink) c.args.set c.args.version c.args.slots c.keeps_some_core.ensures c.ranges.set.fits p c.in_ok-no.ensures c.release.ensures
    c.in-Ok.loads
    (subst (λ (o : Option Whole). IsCopied c.pin.new.self c.copy_pinned-copied.new.keeper p.no (told c.args.sink.now) (told c.copy_pinned-copied.new.sink) p.spots.items o c.args.slots c.in-Ok.loads) c.whole_of-whole.ensures c.in-Ok.ensures.ok)

pub returns-in-Err : goal.returns-in-Err
returns-in-Err g c =
    let told = g.O.Sink.told in
    let p = c.in_ok-no.field-0 in
    stopped_gone c.args.keeper.now c.pin.new.self c.copy_pinned-copied.new.keeper c.release.new.self (told c.args.sink.now) (told c.copy_pinned-copied.new.sink) c.args.set c.args.version c.args.slots c.keeps_some_core.ensures c.ranges.set.fits p c.in_ok-no.ensures c.release.ensures
    c.in-Err.fault
    (subst (λ (o : Option Whole). IsRestoreStopped c.pin.new.self c.copy_pinned-copied.new.keeper p.no (told c.args.sink.now) (told c.copy_pinned-copied.new.sink) p.spots.items o (IsAtMostLeast (requests (map (λ q. q.id) p.spots.items)) c.args.slots) c.in-Err.fault) c.whole_of-whole.ensures c.in-Err.ensures.err)

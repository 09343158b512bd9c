use Rattle.std.proofs.Common.{refl, map}
use Rattle.vault_types.specs.declared.Fault.TheVariants as fault
use Rattle.vault_types.specs.Plans.{requests}
use Rattle.serial_restore.specs.Going.{IsRestoreStopped, IsAtMostLeast}
use Rattle.serial_restore.proofs.Loads.{stopped_as, stops_early, stops_late, copied_all, loads_for, pinned_for, plan_serves, plan_least, plan_rule}
use Rattle.serial_restore.proofs.copying.copy_pinned.Goals as goal

pub new-requires : goal.new-requires
new-requires g c = plan_serves c.args.slots c.args.spots.items c.as_slice.result.now c.in_ok-reqs.reqs.items c.as_slice-2.result.now c.in_ok-planned.planned.steps c.as_slice.ensures.value c.in_ok-reqs.ensures c.as_slice-2.ensures.value c.in_ok-planned.ensures.serves

pub copy_all-requires : goal.copy_all-requires
copy_all-requires g c = record {
  loads = loads_for c.args.slots c.args.spots.items c.in_ok-copier.copier c.in_ok-planned.planned.steps c.in_ok-copier.ensures.spots c.in_ok-copier.ensures.steps
      (plan_rule c.args.slots c.args.spots.items c.as_slice.result.now c.in_ok-reqs.reqs.items c.as_slice-2.result.now c.in_ok-planned.planned.steps c.as_slice.ensures.value c.in_ok-reqs.ensures c.as_slice-2.ensures.value c.in_ok-planned.ensures.rule);
  pinned = pinned_for c.args.keeper.now c.args.no.now c.args.spots.items c.in_ok-copier.copier c.in_ok-copier.ensures.spots c.requires.pinned;
  start = c.in_ok-copier.ensures.start;
  fresh = c.in_ok-copier.ensures.copied;
}

pub returns-in_err-reqs-clause-err : goal.returns-in_err-reqs-clause-err
returns-in_err-reqs-clause-err g c =
    let v = c.args.keeper.now in
    let told = g.O.Sink.told c.args.sink.now in
    stopped_as (IsRestoreStopped v v c.args.no.now told told c.args.spots.items c.args.whole (IsAtMostLeast (requests (map (λ s. s.id) c.args.spots.items)) c.args.slots)) c.from_residual.result fault.Memory c.from_residual.ensures.1
    (stops_early v c.args.no.now told c.args.spots.items c.args.whole c.args.slots fault.Memory refl)

pub returns-in_err-planned-clause-err : goal.returns-in_err-planned-clause-err
returns-in_err-planned-clause-err g c =
    let v = c.args.keeper.now in
    let told = g.O.Sink.told c.args.sink.now in
    stopped_as (IsRestoreStopped v v c.args.no.now told told c.args.spots.items c.args.whole (IsAtMostLeast (requests (map (λ s. s.id) c.args.spots.items)) c.args.slots)) c.from_residual-in_err-planned.result fault.Memory c.from_residual-in_err-planned.ensures.1
    (stops_early v c.args.no.now told c.args.spots.items c.args.whole c.args.slots fault.Memory refl)

pub returns-in_err-copier-clause-err : goal.returns-in_err-copier-clause-err
returns-in_err-copier-clause-err g c =
    let v = c.args.keeper.now in
    let told = g.O.Sink.told c.args.sink.now in
    stopped_as (IsRestoreStopped v v c.args.no.now told told c.args.spots.items c.args.whole (IsAtMostLeast (requests (map (λ s. s.id) c.args.spots.items)) c.args.slots)) c.from_residual-in_err-copier.result fault.Memory c.from_residual-in_err-copier.ensures.1
    (stops_early v c.args.no.now told c.args.spots.items c.args.whole c.args.slots fault.Memory refl)

pub returns-in_err-copy_all-clause-err : goal.returns-in_err-copy_all-clause-err
returns-in_err-copy_all-clause-err g c =
    let v = c.args.keeper.now in
    let told = g.O.Sink.told in
    let w = c.copy_all.new.keeper in
    let s = c.in_ok-copier.copier in
    stopped_as (IsRestoreStopped v w c.args.no.now (told c.args.sink.now) (told c.copy_all.new.sink) c.args.spots.items c.args.whole (IsAtMostLeast (requests (map (λ s. s.id) c.args.spots.items)) c.args.slots)) c.from_residual-in_err-copy_all.result c.in_err-copy_all.field-0.0 c.from_residual-in_err-copy_all.ensures.1
    (stops_late v c.args.no.now (told c.args.sink.now) c.args.spots.items c.args.whole c.args.slots w (told c.copy_all.new.sink) s c.in_ok-planned.planned.steps c.in_ok-planned.planned.loads c.in_ok-copier.ensures.spots c.in_ok-copier.ensures.steps c.in_ok-planned.ensures.loads
    (plan_least c.args.slots c.args.spots.items c.as_slice.result.now c.in_ok-reqs.reqs.items c.as_slice-2.result.now c.in_ok-planned.planned.loads c.as_slice.ensures.value c.in_ok-reqs.ensures c.as_slice-2.ensures.value c.in_ok-planned.ensures.least)
    c.in_ok-copier.ensures.whole c.in_err-copy_all.field-0.0 c.in_err-copy_all.ensures.err)

pub returns-clause-ok : goal.returns-clause-ok
returns-clause-ok g c =
    let v = c.args.keeper.now in
    let told = g.O.Sink.told in
    let w = c.copy_all.new.keeper in
    let s = c.in_ok-copier.copier in
    copied_all v c.args.no.now (told c.args.sink.now) c.args.spots.items c.args.whole c.args.slots w (told c.copy_all.new.sink) s c.in_ok-planned.planned.steps c.in_ok-planned.planned.loads c.in_ok-copier.ensures.spots c.in_ok-copier.ensures.steps c.in_ok-planned.ensures.loads
    (plan_least c.args.slots c.args.spots.items c.as_slice.result.now c.in_ok-reqs.reqs.items c.as_slice-2.result.now c.in_ok-planned.planned.loads c.as_slice.ensures.value c.in_ok-reqs.ensures c.as_slice-2.ensures.value c.in_ok-planned.ensures.least)
    c.in_ok-copier.ensures.whole
    (plan_serves c.args.slots c.args.spots.items c.as_slice.result.now c.in_ok-reqs.reqs.items c.as_slice-2.result.now c.in_ok-planned.planned.steps c.as_slice.ensures.value c.in_ok-reqs.ensures c.as_slice-2.ensures.value c.in_ok-planned.ensures.serves)
    c.in_ok-copy_all.ensures.ok

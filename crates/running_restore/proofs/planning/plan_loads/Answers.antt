use Rattle.std.proofs.Common.{ap, ◌∙◌, arith}
use Rattle.restore_stage.specs.Assembling.{load_ids}
use Rattle.serial_restore.proofs.Loads.{plan_serves, plan_least, plan_rule}
use Rattle.running_restore.proofs.Plans.{is_plan}
use Rattle.running_restore.proofs.planning.plan_loads.Goals as goal

pub returns : goal.returns
returns c =
    let r = c.in_ok-reqs in
    let p = c.in_ok-planned in
    let k = c.in_ok-copier in
    is_plan c.args.spots.items c.args.whole c.args.slots c.in_ok-ids.ids.items k.copier p.planned.steps p.planned.loads k.ensures.spots k.ensures.steps k.ensures.whole k.ensures.start k.ensures.copied
    (plan_rule c.args.slots c.args.spots.items c.as_slice.result.now r.reqs.items c.as_slice-2.result.now p.planned.steps c.as_slice.ensures.value r.ensures c.as_slice-2.ensures.value p.ensures.rule)
    (plan_serves c.args.slots c.args.spots.items c.as_slice.result.now r.reqs.items c.as_slice-2.result.now p.planned.steps c.as_slice.ensures.value r.ensures c.as_slice-2.ensures.value p.ensures.serves)
    p.ensures.loads
    (plan_least c.args.slots c.args.spots.items c.as_slice.result.now r.reqs.items c.as_slice-2.result.now p.planned.loads c.as_slice.ensures.value r.ensures c.as_slice-2.ensures.value p.ensures.least)
    (c.in_ok-ids.ensures ∙ ap load_ids c.as_slice-3.ensures) (omega (arith, c.in_ok-ids.ids.ok, c.in_ok-ids.ids.small))

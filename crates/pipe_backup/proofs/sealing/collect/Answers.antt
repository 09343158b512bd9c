use Rattle.std.proofs.Common.{◌∙◌, Some}
use Rattle.stage_flows.specs.declared.Last.TheVariants as last
use Rattle.stage_flows.specs.Runs.{run}
use Rattle.pipe_backup.proofs.Handing.{all_back, halts, handed_back, given_still, came_part, came_last}
use Rattle.pipe_backup.proofs.sealing.collect.Goals as goal

pub returns-in-Err-clause-ok : goal.returns-in-Err-clause-ok
returns-in-Err-clause-ok g c b gone h of is front =
    let d = c.loop.invariant.handed b gone h of is in
    let given = given_still c.loop.lane c.next-in-loop.new.self d.put c.next-in-loop.result d.back_are c.next-in-loop.ensures ∙ d.given_are in
    let back = came_last c.loop.lane c.next-in-loop.new.self d.put c.next-in-loop.result d.back_are c.next-in-loop.ensures c.in-Err.field-0 c.in-Err.ensures in
    all_back b c.loop.keeper c.loop.lens.items c.next-in-loop.new.self gone d.put c.in-Err.field-0 last.End given back d.all front

pub returns-in-Err-put_sealed-clause-err : goal.returns-in-Err-put_sealed-clause-err
returns-in-Err-put_sealed-clause-err g c b gone h of is =
    let d = c.loop.invariant.handed b gone h of is in
    let given = given_still c.loop.lane c.next-in-loop.new.self d.put c.next-in-loop.result d.back_are c.next-in-loop.ensures ∙ d.given_are in
    let back = came_part c.loop.lane c.next-in-loop.new.self d.put c.next-in-loop.result d.back_are c.next-in-loop.ensures c.in-Ok.sealed c.in-Ok.ensures in
    halts b c.put_sealed.new.keeper c.next-in-loop.new.self gone d.put c.in-Ok.sealed (Some last.End) of given back c.in-Err-put_sealed.halt (c.in-Err-put_sealed.ensures.err b d.put d.all is)

pub loop-preserved : goal.loop-preserved
loop-preserved g c = record {
  handed = λ b gone h of is.
      let d = c.loop.invariant.handed b gone h of is in
      let given = given_still c.loop.lane c.next-in-loop.new.self d.put c.next-in-loop.result d.back_are c.next-in-loop.ensures ∙ d.given_are in
      let back = came_part c.loop.lane c.next-in-loop.new.self d.put c.next-in-loop.result d.back_are c.next-in-loop.ensures c.in-Ok.sealed c.in-Ok.ensures in
      handed_back b c.put_sealed.new.keeper c.put_sealed.new.lens.items c.next-in-loop.new.self (run gone (Some last.End)) d.put c.in-Ok.sealed given back (c.in_default.ensures.ok b d.put d.all is);
}

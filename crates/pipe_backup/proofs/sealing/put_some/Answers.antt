use Rattle.std.proofs.Common.{◌∙◌, None}
use Rattle.stage_flows.specs.Runs.{run}
use Rattle.pipe_backup.proofs.Handing.{never_early, halts, handed_as, handed_back, given_still, came_part, came_last}
use Rattle.pipe_backup.proofs.sealing.put_some.Goals as goal

pub returns-in-Err-clause-err : goal.returns-in-Err-clause-err
returns-in-Err-clause-err g c b gone h of is front =
    let d = handed_as b c.args.keeper.now c.args.lens.now.items c.args.lane.now c.turn-kept.new.self (run gone None) c.turn-kept.ensures h in
    let given = given_still c.turn-kept.new.self c.take.new.self d.put c.in-Some.item d.back_are c.in-Some.ensures.taken ∙ d.given_are in
    let back = came_last c.turn-kept.new.self c.take.new.self d.put c.in-Some.item d.back_are c.in-Some.ensures.taken c.in-Err.field-0 c.in-Err.ensures in
    never_early c.take.new.self gone d.put c.in-Err.field-0 given back front

pub returns-in-Ok-put_sealed-clause-ok : goal.returns-in-Ok-put_sealed-clause-ok
returns-in-Ok-put_sealed-clause-ok g c b gone h of is =
    let d = handed_as b c.args.keeper.now c.args.lens.now.items c.args.lane.now c.turn-kept.new.self (run gone None) c.turn-kept.ensures h in
    let given = given_still c.turn-kept.new.self c.take.new.self d.put c.in-Some.item d.back_are c.in-Some.ensures.taken ∙ d.given_are in
    let back = came_part c.turn-kept.new.self c.take.new.self d.put c.in-Some.item d.back_are c.in-Some.ensures.taken c.in-Ok.sealed c.in-Ok.ensures in
    handed_back b c.put_sealed.new.keeper c.put_sealed.new.lens.items c.take.new.self (run gone None) d.put c.in-Ok.sealed given back (c.in-Ok-put_sealed.ensures.ok b d.put d.all is)

pub returns-in-Err-put_sealed-clause-err : goal.returns-in-Err-put_sealed-clause-err
returns-in-Err-put_sealed-clause-err g c b gone h of is =
    let d = handed_as b c.args.keeper.now c.args.lens.now.items c.args.lane.now c.turn-kept.new.self (run gone None) c.turn-kept.ensures h in
    let given = given_still c.turn-kept.new.self c.take.new.self d.put c.in-Some.item d.back_are c.in-Some.ensures.taken ∙ d.given_are in
    let back = came_part c.turn-kept.new.self c.take.new.self d.put c.in-Some.item d.back_are c.in-Some.ensures.taken c.in-Ok.sealed c.in-Ok.ensures in
    halts b c.put_sealed.new.keeper c.take.new.self gone d.put c.in-Ok.sealed None of given back c.in-Err-put_sealed.halt (c.in-Err-put_sealed.ensures.err b d.put d.all is)

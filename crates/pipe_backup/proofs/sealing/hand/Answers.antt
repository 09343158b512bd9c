use Rattle.std.proofs.Common.{◌∙◌, None}
use Rattle.stage_flows.specs.Runs.{run}
use Rattle.pipe_backup.proofs.Handing.{handed_as, handed_item}
use Rattle.pipe_backup.proofs.sealing.hand.Goals as goal

pub returns-in-Err-clause-err : goal.returns-in-Err-clause-err
returns-in-Err-clause-err g c b gone h of is = c.in-Err.ensures.err b gone (c.loop.invariant.handed b gone h of is) of is

pub returns-in-Ok-offer-clause-ok : goal.returns-in-Ok-offer-clause-ok
returns-in-Ok-offer-clause-ok g c b gone h of is =
    handed_item b c.put_some.new.keeper c.put_some.new.lens.items c.put_some.new.lane c.offer.new.self (run gone None) c.loop.item c.args.item c.loop.invariant.item c.in-Ok-offer.ensures.given
    (c.in-Ok.ensures.ok b gone (c.loop.invariant.handed b gone h of is) of is)

pub loop-preserved-then-has_moved : goal.loop-preserved-then-has_moved
loop-preserved-then-has_moved g c = record {
  item = c.in-Err-offer.ensures.full.0 ∙ c.loop.invariant.item;
  handed = λ b gone h of is. handed_as b c.put_some.new.keeper c.put_some.new.lens.items c.put_some.new.lane c.offer.new.self (run gone None) c.in-Err-offer.ensures.full.1 (c.in-Ok.ensures.ok b gone (c.loop.invariant.handed b gone h of is) of is);
}

pub loop-preserved : goal.loop-preserved
loop-preserved g c = record {
  item = c.in-Err-offer.ensures.full.0 ∙ c.loop.invariant.item;
  handed = λ b gone h of is. handed_as b c.put_some.new.keeper c.put_some.new.lens.items c.put_some.new.lane c.offer.new.self (run gone None) c.in-Err-offer.ensures.full.1 (c.in-Ok.ensures.ok b gone (c.loop.invariant.handed b gone h of is) of is);
}

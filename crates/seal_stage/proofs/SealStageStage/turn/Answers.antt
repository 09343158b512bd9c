use Rattle.std.proofs.Common.{◌≡◌, ◌++◌, [], length, None, rules}
use Rattle.stage_flows.proofs.Running.{sent_one}
use Rattle.seal_stage.specs.Sealing.{AreSealed}
use Rattle.seal_stage.proofs.Seals.{AreSealed_part}
use Rattle.seal_stage.proofs.SealStageStage.turn.Goals as goal

pub returns-in-Ok-clause-turned : goal.returns-in-Ok-clause-turned
returns-in-Ok-clause-turned g c = rw (← c.self.view_is) (sent_one c.self.inside.to c.offer.new.self c.in-Some.item (length c.self.inside.from.taken) c.in-Ok.ensures.sent)

pub invariant_of-self-in-Ok-parted : goal.invariant_of-self-in-Ok-parted
invariant_of-self-in-Ok-parted g c = let s = c.self.inside in let none : s.ready ≡ None = search rules in let open_yet : s.over ≡ None = search rules in
    let before : AreSealed s.from.taken (s.to.sent ++ []) None = rw (none, open_yet) at c.self.invariant in
    rw (c.in-Some-take.ensures.taken, c.in-Ok-parted.ensures, open_yet, c.refill-in-Ok-parted.ensures, c.seal.ensures) (AreSealed_part s.from.taken s.to.sent c.in-Ok-parted.unsealed before)

use Rattle.std.proofs.Common.{[], sym, subst}
use Rattle.vault_types.specs.Decide.{Rules}
use Rattle.segment_gather.specs.Gathering.{HasGathered}
use Rattle.decide_stage.proofs.Judged.{begun}
use Rattle.decide_stage.proofs.stage.DecideStage.new.Goals as goal

pub invariant_of-result : goal.invariant_of-result
invariant_of-result c = let r : Rules = record { sparse = c.args.copy.items; config = c.args.config } in
    begun r c.args.limit c.new-picker.result c.new-gatherer.result c.new-dealer.result c.args.holder.raised c.new-picker.ensures.picked
    (subst (λ q. HasGathered c.new-gatherer.result (record { sparse = q; config = c.args.config }) [] []) (sym c.requires.copy) c.new-gatherer.ensures.gathered) c.new-dealer.ensures.dealt c.requires.raised

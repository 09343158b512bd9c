use Rattle.std.proofs.Common.{◌∙◌}
use Rattle.rewrite_stage.proofs.Rule.{has-flip}
use Rattle.rewrite_stage.proofs.decider.has_id.Goals as goal

pub returns : goal.returns
returns c = c.contains.ensures.value ∙ has-flip c.args.id c.args.ids.now

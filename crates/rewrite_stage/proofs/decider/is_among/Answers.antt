use Rattle.std.proofs.Common.{◌∙◌}
use Rattle.std.proofs.lemmas.List.Sorted.{searched}
use Rattle.rewrite_stage.proofs.Rule.{among}
use Rattle.rewrite_stage.proofs.decider.is_among.Goals as goal

pub returns : goal.returns
returns c =
    c.is_ok.ensures.value
    ∙ among c.args.id c.args.ids.now c.binary_search.result
    (searched c.args.ids.now c.args.id c.binary_search.result c.binary_search.ensures.position (λ i j p l. c.requires i j 0 p l))

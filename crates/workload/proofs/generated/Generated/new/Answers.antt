use Rattle.std.proofs.Common.{◌∙◌, ◌-◌, ◌++◌, ℕ, List, ap}
use Rattle.std.specs.Prelude.{replicate}
use Rattle.workload.proofs.Counting.{whole}
use Rattle.workload.proofs.generated.Generated.new.Goals as goal

pub returns : goal.returns
returns c = ap (λ (l : List ℕ). replicate (c.args.version - 1) 0 ++ l) c.new-blocks.ensures ∙ whole c.args.seed c.args.version

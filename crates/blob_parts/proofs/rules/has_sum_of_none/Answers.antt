use Rattle.std.proofs.Common.{sym, ◌∙◌}
use Rattle.blob_parts.proofs.RuleLemmas.{sum_rule}
use Rattle.blob_parts.proofs.rules.has_sum_of_none.Goals as goal

pub returns-else-not-is_empty : goal.returns-else-not-is_empty
returns-else-not-is_empty c =
    sum_rule c.args.rows.now c.args.whole.now c.in-Some.whole c.digest.result c.eq.result c.in-Some.is c.eq.ensures c.digest.ensures (sym c.is_empty.ensures ∙ c.if-not-is_empty.false)

use Rattle.std.specs.Prelude.{nat_eq}
use Rattle.std.specs.HashSet as bag
use Rattle.blob_parts.proofs.RuleLemmas.{ids, all_used, used_all}
use Rattle.blob_parts.proofs.rules.are_used.Goals as goal

pub returns-clause-yes : goal.returns-clause-yes
returns-clause-yes c found = all_used (λ q. bag.contains nat_eq c.in_ok-ids.ids q) (ids c.args.rows.now) c.in_ok-ids.ensures c.args.sparse.now (c.are_among.ensures.0 found)

pub returns-clause-no : goal.returns-clause-no
returns-clause-no c used = c.are_among.ensures.1 (used_all (λ q. bag.contains nat_eq c.in_ok-ids.ids q) (ids c.args.rows.now) c.in_ok-ids.ensures c.args.sparse.now used)

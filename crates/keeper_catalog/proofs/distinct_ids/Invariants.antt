use Rattle.std.proofs.Common.{◌≡◌, ◌++◌, map}
use Rattle.vault_types.specs.Lists.{set_of}
use Rattle.keeper_catalog.proofs.distinct_ids.Given as goal

abbrev pub invariant-loop-id : goal.invariant-loop-id
invariant-loop-id l = l.list.items ++ l.id-iterator ≡ set_of (map (λ r. r.id) l.rows)

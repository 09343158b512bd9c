use Rattle.std.proofs.Common.{◌≡◌, ℕ, take}
use Rattle.std.specs.Prelude.{nat_eq}
use Rattle.std.specs.HashSet as bag
use Rattle.vault_types.specs.Lists.{has}
use Rattle.blob_parts.proofs.RuleLemmas.{ids}
use Rattle.blob_parts.proofs.rules.ids_of.Given as goal

abbrev pub invariant-loop-row : goal.invariant-loop-row
invariant-loop-row l = (q : ℕ) → bag.contains nat_eq l.ids q ≡ has q (ids (take l.row-index l.rows))

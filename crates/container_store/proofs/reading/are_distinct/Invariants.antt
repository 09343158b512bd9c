use Rattle.std.proofs.Common.{take}
use Rattle.std.specs.HashSet as bag
use Rattle.vault_types.specs.Names.{same_fp}
use Rattle.container_store.proofs.Apart.{fps, IsSeen}
use Rattle.container_store.proofs.reading.are_distinct.Given as goal

abbrev pub invariant-loop-row : goal.invariant-loop-row
invariant-loop-row l = IsSeen (λ q. bag.contains same_fp l.seen q) (fps (take l.row-index l.rows))

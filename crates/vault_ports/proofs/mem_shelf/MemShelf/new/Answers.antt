use Rattle.vault_ports.proofs.Overlaid.{nothing, only_floors_none}
use Rattle.vault_ports.proofs.mem_shelf.MemShelf.new.Goals as goal

pub invariant_of-result : goal.invariant_of-result
invariant_of-result c = only_floors_none _ c.new.ensures

pub returns-clause-blobs : goal.returns-clause-blobs
returns-clause-blobs c = nothing _ _ c.new.ensures c.new-2.ensures.empty

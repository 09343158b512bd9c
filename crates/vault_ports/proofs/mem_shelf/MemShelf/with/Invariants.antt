use Rattle.std.proofs.Common.{◌≡◌, vec_len}
use Rattle.vault_ports.specs.Mem.{blobs_of}
use Rattle.vault_ports.proofs.Overlaid.{over_all}
use Rattle.vault_ports.proofs.mem_shelf.MemShelf.with.Given as goal

abbrev pub invariant-loop-name : goal.invariant-loop-name
invariant-loop-name l = over_all l.rest.items (blobs_of l.tree.entries) ≡ blobs_of l.fn.blobs.items

abbrev pub decreases-loop-name : goal.decreases-loop-name
decreases-loop-name l = vec_len l.rest

use Rattle.vault_ports.proofs.Named.{SearchedTo}
use Rattle.vault_ports.proofs.files.Files.index_of.Given as goal

abbrev pub invariant-loop-i : goal.invariant-loop-i
invariant-loop-i l = SearchedTo l.self.list.items l.name l.i

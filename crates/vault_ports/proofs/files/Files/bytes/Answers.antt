use Rattle.std.proofs.Common.{◌∙◌, ℕ, Some, List, ap}
use Rattle.vault_ports.proofs.Named.{found_bytes}
use Rattle.vault_ports.proofs.files.Files.bytes.Goals as goal

pub returns-in-Some : goal.returns-in-Some
returns-in-Some c = ap (λ (l : List ℕ). Some l) c.as_slice.ensures.value ∙ found_bytes c.args.self.now.list.items c.args.name.now c.in-Some.i c.index.result.now c.index.ensures c.in-Some.ensures.1

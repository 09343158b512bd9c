use Rattle.vault_ports.proofs.Named.{given_bytes}
use Rattle.vault_ports.proofs.files.Files.give.Goals as goal

pub returns : goal.returns
returns c = given_bytes c.args.self.now.list.items c.args.name.now c.in-Some.i c.index_mut.result.now c.args.bytes c.index_mut.ensures.value c.in-Some.ensures.1

use Rattle.std.proofs.Common.{arith}
use Rattle.vault_ports.proofs.FloorLemmas.{joined_names}
use Rattle.vault_ports.proofs.floors.Floors.push_names.Goals as goal

pub returns : goal.returns
returns c = joined_names c.loop-i.names.items c.args.names.now.items c.self.inside.slots c.args.self.now c.loop-i.i (omega (arith, c.self.invariant, c.loop-i-test.false)) c.self.view_is c.loop-i.invariant

use Rattle.std.proofs.Common.{ap, arith}
use Rattle.vault_types.specs.declared.Name.{Name}
use Rattle.vault_ports.proofs.FloorLemmas.{no_slot}
use Rattle.vault_ports.proofs.floors.Floors.slot_of.Goals as goal

pub returns-else-name : goal.returns-else-name
returns-else-name c = no_slot c.self.inside.slots c.args.self.now c.args.name c.self.view_is (λ i within e. absurd (omega (arith, c.self.invariant, ap (λ (n : Name). n.number) e)))

pub returns-in_default : goal.returns-in_default
returns-in_default c = no_slot c.self.inside.slots c.args.self.now c.args.name c.self.view_is (λ i within e. c.in_default.not-Floor (ap (λ (n : Name). n.kind) e))

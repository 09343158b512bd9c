use Rattle.std.proofs.Common.{◌∙◌, sym, arith}
use Rattle.vault_ports.proofs.FloorLemmas.{in_slot}
use Rattle.vault_ports.proofs.floors.Floors.blob.Goals as goal

pub returns-in-Some-slots : goal.returns-in-Some-slots
returns-in-Some-slots c =
    sym c.in-Some-slots.is ∙ sym (in_slot c.self.inside.slots c.args.self.now c.args.name c.in-Some.at c.self.view_is (omega (arith, c.self.invariant, c.in-Some.ensures.0)) c.in-Some.ensures.1)

pub returns-in-None : goal.returns-in-None
returns-in-None c =
    sym c.in-None.is ∙ sym (in_slot c.self.inside.slots c.args.self.now c.args.name c.in-Some.at c.self.view_is (omega (arith, c.self.invariant, c.in-Some.ensures.0)) c.in-Some.ensures.1)

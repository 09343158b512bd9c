use Rattle.std.proofs.Common.{◌∙◌, ◌<◌, ◌+◌, length, None, ap, arith, sym}
use Rattle.vault_types.specs.declared.Name.{Name}
use Rattle.vault_types.specs.Shelf.{Blobs, with_blob, floor_name}
use Rattle.vault_traits.proofs.Maps.{with_blob_absent}
use Rattle.vault_ports.proofs.FloorLemmas.{set_slot, name_at}
use Rattle.vault_ports.proofs.floors.Floors.remove.Goals as goal

pub returns : goal.returns
returns c =
    let within : c.in-Some.at < length c.self.inside.slots = omega (arith, c.self.invariant, c.in-Some.ensures.0) in
    set_slot 0 c.self.inside.slots c.in-Some.at None within
    ∙ ap (λ (m : Blobs). with_blob m (floor_name (0 + c.in-Some.at)) None) c.self.view_is
    ∙ ap (λ (n : Name). with_blob c.args.self.now n None) (name_at c.in-Some.at ∙ sym c.in-Some.ensures.1)

pub returns-in_default : goal.returns-in_default
returns-in_default c = sym (with_blob_absent c.args.self.now c.args.name c.in_default.ensures)

use Rattle.std.proofs.Common.{◌≡◌, ◌∙◌, ◌<◌, ◌+◌, length, Some, ap, arith, ℕ}
use Rattle.vault_types.specs.Shelf.{Blobs, with_blob, floor_name}
use Rattle.vault_ports.proofs.FloorLemmas.{set_slot}
use Rattle.vault_ports.proofs.floors.Floors.put.Goals as goal

pub returns : goal.returns
returns c =
    let within : c.args.set < length c.self.inside.slots = omega (arith, c.self.invariant, c.ranges.set.fits) in
    set_slot 0 c.self.inside.slots c.args.set (Some c.args.bytes.now) within
    ∙ ap (λ (m : Blobs). with_blob m (floor_name (0 + c.args.set)) (Some c.args.bytes.now)) c.self.view_is
    ∙ ap (λ (n : ℕ). with_blob c.args.self.now (floor_name n) (Some c.args.bytes.now)) (let e : 0 + c.args.set ≡ c.args.set = omega arith in e)

use Rattle.std.proofs.Common.{◌≡◌, ℕ, List, Option, Some, subst}
use Rattle.std.specs.Prelude.{IsSome, option_map}
use Rattle.std.specs.Global.{Vec}
use Rattle.vault_types.specs.Tables.{Container}
use Rattle.vault_types.specs.State.{container_in}
use Rattle.vault_types.specs.Shelf.{payload_name, Has}
use Rattle.vault_types.specs.Events.{Core}
use Rattle.keeper_catalog.specs.View.{View, Keeps}
use Rattle.keeper_core.proofs.Openings.{ok_more}
use Rattle.keeper_core.proofs.NamedTables.{payload_of_named}
use Rattle.keeper_core.proofs.keeper.Keeper.fetch.Goals as goal

abbrev bytes_in : Option (Vec ℕ) → Option (List ℕ)
bytes_in found = option_map (λ (b : Vec ℕ). b.items) found

pub returns-clause-payload : goal.returns-clause-payload
returns-clause-payload g c =
    ok_more (λ (found : Option (Vec ℕ)). Has (g.S.Shelf.told c.self.inside.shelf).blobs (payload_name c.args.id) (bytes_in found))
    (λ (found : Option (Vec ℕ)). IsSome c.args.self.now.told.blobs → (K : Core) (d : Container) → Keeps c.args.self.now K → container_in K.state.containers c.args.id ≡ Some d → bytes_in found ≡ d.payload)
    c.get_payload.result
    (λ found has tells K d keeps at.
    payload_of_named c.args.self.now K keeps c.args.id d at (bytes_in found) tells (subst (λ (v : View). Has v.told.blobs (payload_name c.args.id) (bytes_in found)) c.self.view_is has))
    c.get_payload.ensures.found

use Rattle.state_laws.proofs.Changing.{told_same}
use Rattle.vault_types.specs.Events.{Held}
use Rattle.keeper_catalog.specs.View.{opened_core}
use Rattle.keeper_core.proofs.Openings.{opened_keeps, each_keeps}
use Rattle.keeper_core.proofs.keeper.Keeper.start.Goals as goal

pub returns-in-Ok-clause-each : goal.returns-in-Ok-clause-each
returns-in-Ok-clause-each g c =
    let o = c.in-Ok.ensures.opened in
    each_keeps _ o.0 _ o.1.opens (opened_keeps o.0 (g.S.Shelf.told c.open.new.shelf) _ _ _ c.new.ensures o.1.valid (told_same (λ m. Held m (opened_core o.0 c.in-Ok.opened.catalog.strays.items)) _ _ c.open.ensures.kept.blobs o.1.held) o.1.memo o.1.index)

pub returns-in-Ok-clause-strays : goal.returns-in-Ok-clause-strays
returns-in-Ok-clause-strays g c = c.in-Ok.ensures.opened.1.strays

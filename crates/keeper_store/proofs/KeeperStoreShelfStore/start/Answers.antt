use Rattle.keeper_store.proofs.Opening.{begun, begun_strays, opened_as}
use Rattle.keeper_store.proofs.KeeperStoreShelfStore.start.Goals as goal

pub returns-in-Ok-clause-opened : goal.returns-in-Ok-clause-opened
returns-in-Ok-clause-opened g c = opened_as (g.S.Shelf.told c.args.shelf).blobs c.in-Ok.ensures.opened.0 c.in-Ok.ensures.opened.1

pub returns-in-Ok-clause-keeps : goal.returns-in-Ok-clause-keeps
returns-in-Ok-clause-keeps g c T begins = begun c.in-Ok.keeper (g.S.Shelf.told c.args.shelf) c.in-Ok.ensures.shelf.0 c.in-Ok.ensures.each T begins

pub returns-in-Ok-clause-strays : goal.returns-in-Ok-clause-strays
returns-in-Ok-clause-strays g c T begins n known = begun_strays c.in-Ok.keeper (g.S.Shelf.told c.args.shelf) c.in-Ok.ensures.shelf.0 c.in-Ok.ensures.each c.in-Ok.ensures.strays T begins n known

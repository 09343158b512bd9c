use Rattle.std.proofs.Common.{subst}
use Rattle.keeper_catalog.specs.View.{View}
use Rattle.store_model.specs.Migrating.{MigratesStore}
use Rattle.keeper_core.specs.Keeping.{IsStateOf, IsKnownStray}
use Rattle.keeper_store.proofs.KeeperStoreShelfStore.migrate.Goals as goal

pub returns : goal.returns
returns g c =
    let w = c.migrate_plain.new.keeper in
    subst (λ (v : View). MigratesStore (λ S other. IsStateOf v S other) (λ S other. IsStateOf w S other) (λ n. IsKnownStray v n) (λ n. IsKnownStray w n) v.told w.told c.migrate_plain.result)
    c.self.view_is c.migrate_plain.ensures.store

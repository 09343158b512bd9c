use Rattle.std.proofs.Common.{[], subst}
use Rattle.keeper_catalog.specs.View.{View}
use Rattle.store_model.specs.Calls.{DeletesLine}
use Rattle.keeper_core.specs.Keeping.{IsStateOf, IsKnownStray}
use Rattle.keeper_store.proofs.KeeperStoreLineStore.delete.Goals as goal

pub returns : goal.returns
returns g c =
    let w = c.delete_plain.new.keeper in
    subst (λ (v : View). DeletesLine (λ S other. IsStateOf v S other) (λ S other. IsStateOf w S other) (λ n. IsKnownStray v n) (λ n. IsKnownStray w n) c.args.set c.args.through v.told w.told c.delete_plain.result)
    c.self.view_is (c.delete_plain.ensures.line [])

use Rattle.std.proofs.Common.{[], subst}
use Rattle.keeper_catalog.specs.View.{View}
use Rattle.store_model.specs.Calls.{RestoresLine}
use Rattle.keeper_core.specs.Keeping.{IsStateOf, IsKnownStray}
use Rattle.keeper_store.proofs.KeeperStoreLineStore.restore.Goals as goal

pub returns : goal.returns
returns g c =
    let w = c.restore_plain.new.keeper in
    subst (λ (v : View). RestoresLine (λ S other. IsStateOf v S other) (λ S other. IsStateOf w S other) (λ n. IsKnownStray v n) (λ n. IsKnownStray w n) c.args.set c.args.version c.args.slots v.told w.told (g.O.Sink.told c.args.sink.now) (g.O.Sink.told c.restore_plain.new.sink) c.restore_plain.result)
    c.self.view_is (c.restore_plain.ensures.line [])

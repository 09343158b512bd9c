use Rattle.std.proofs.Common.{[], subst}
use Rattle.keeper_catalog.specs.View.{View}
use Rattle.store_model.specs.Calls.{BacksUpLine}
use Rattle.keeper_core.specs.Keeping.{IsStateOf, IsKnownStray}
use Rattle.keeper_store.proofs.KeeperStoreLineStore.back_up.Goals as goal

pub returns : goal.returns
returns g c =
    let w = c.backup_line.new.keeper in
    subst (λ (v : View). BacksUpLine (λ S other. IsStateOf v S other) (λ S other. IsStateOf w S other) (λ n. IsKnownStray v n) (λ n. IsKnownStray w n) c.args.limits.now c.args.set c.args.config.now v.told w.told (g.I.Source.told c.args.source.now) (g.I.Source.told c.backup_line.new.source) c.backup_line.result)
    c.self.view_is (c.backup_line.ensures.line [])

use Rattle.std.proofs.Common.{[], sym, subst}
use Rattle.keeper_catalog.specs.View.{View}
use Rattle.store_model.specs.Calls.{BacksUpLine}
use Rattle.keeper_core.specs.Keeping.{IsStateOf, IsKnownStray}
use Rattle.piped_script.proofs.backing.back_up_piped.Goals as goal

pub returns : goal.returns
returns g c =
    let w = c.backup_line_piped-source.new.keeper in
    let b = c.backup_line_piped-source.result in
    subst (λ (u : View). BacksUpLine (λ S other. IsStateOf c.args.store S other) (λ S other. IsStateOf u S other) (λ n. IsKnownStray c.args.store n) (λ n. IsKnownStray u n) c.args.limits.now c.args.set c.args.config.now c.args.store.told u.told (g.I.Source.told c.args.source) (g.I.Source.told b.0) b.1)
    (sym c.from_keeper.ensures)
    (subst (λ (v : View). BacksUpLine (λ S other. IsStateOf v S other) (λ S other. IsStateOf w S other) (λ n. IsKnownStray v n) (λ n. IsKnownStray w n) c.args.limits.now c.args.set c.args.config.now v.told w.told (g.I.Source.told c.args.source) (g.I.Source.told b.0) b.1)
    c.into_keeper-keeper.ensures.keeper (c.backup_line_piped-source.ensures.line []))

use Rattle.std.proofs.Common.{[], sym, subst, ap, ◌∙◌}
use Rattle.keeper_catalog.specs.View.{View}
use Rattle.store_model.specs.Calls.{RestoresLine}
use Rattle.keeper_core.specs.Keeping.{IsStateOf, IsKnownStray}
use Rattle.piped_restore.proofs.store.restore_piped.Goals as goal

pub returns : goal.returns
returns g c =
    let w = c.restore_in_thread-outcome.new.keeper in
    let b = c.restore_in_thread-outcome.result in
    subst (λ (u : View). RestoresLine (λ S other. IsStateOf c.args.store S other) (λ S other. IsStateOf u S other) (λ n. IsKnownStray c.args.store n) (λ n. IsKnownStray u n) c.args.set c.args.version c.args.slots c.args.store.told u.told (g.O.Sink.told c.args.sink) (g.O.Sink.told b.1) b.0)
    (sym c.from_keeper.ensures)
    (subst (λ (v : View). RestoresLine (λ S other. IsStateOf v S other) (λ S other. IsStateOf w S other) (λ n. IsKnownStray v n) (λ n. IsKnownStray w n) c.args.set c.args.version c.args.slots v.told w.told (g.O.Sink.told c.args.sink) (g.O.Sink.told b.1) b.0)
    c.into_keeper-keeper.ensures.keeper (c.restore_in_thread-outcome.ensures.line []))

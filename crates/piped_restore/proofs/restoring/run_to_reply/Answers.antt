use Rattle.std.proofs.Common.{◌≡◌, ◌∙◌, sym, ap, subst}
use Rattle.running_restore.specs.Views.{RunningView}
use Rattle.piped_restore.specs.Running.{RunsAlone}
use Rattle.piped_restore.proofs.Alone.{fed_alone, rest_fed}
use Rattle.piped_restore.proofs.restoring.run_to_reply.Goals as goal

pub loop-preserved-in-Moved : goal.loop-preserved-in-Moved
loop-preserved-in-Moved g c =
    let still = c.in_default.ensures.none in
    let first = c.args.running.now in
    record {
      alone = fed_alone c.loop.keeper c.feed.new.keeper c.reply.new.self c.feed.new.self c.feed.ensures.fed c.feed.ensures.running (subst (λ (r : RunningView). RunsAlone c.loop.keeper r) (sym still) c.loop.invariant.alone);
      unreplied = ap (λ (r : RunningView). r.replied) c.feed.ensures.fed.is ∙ ap (λ (r : RunningView). r.replied) still ∙ c.loop.invariant.unreplied;
      same = rest_fed c.loop.keeper c.feed.new.keeper first c.reply.new.self c.feed.new.self
          (subst (λ (r : RunningView). r ≡ record first { got = r.got; met = r.met; sent = r.sent; replied = r.replied }) (sym still) c.loop.invariant.same) c.feed.ensures.fed;
    }

pub loop-preserved : goal.loop-preserved
loop-preserved g c =
    let still = c.in_default.ensures.none in
    let first = c.args.running.now in
    record {
      alone = fed_alone c.loop.keeper c.feed.new.keeper c.reply.new.self c.feed.new.self c.feed.ensures.fed c.feed.ensures.running (subst (λ (r : RunningView). RunsAlone c.loop.keeper r) (sym still) c.loop.invariant.alone);
      unreplied = ap (λ (r : RunningView). r.replied) c.feed.ensures.fed.is ∙ ap (λ (r : RunningView). r.replied) still ∙ c.loop.invariant.unreplied;
      same = rest_fed c.loop.keeper c.feed.new.keeper first c.reply.new.self c.feed.new.self
          (subst (λ (r : RunningView). r ≡ record first { got = r.got; met = r.met; sent = r.sent; replied = r.replied }) (sym still) c.loop.invariant.same) c.feed.ensures.fed;
    }

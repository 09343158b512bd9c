use Rattle.std.proofs.Common.{◌++◌, sym, ap, subst, ◌∙◌}
use Rattle.stage_flows.specs.Runs.{held}
use Rattle.restore_turns.proofs.Pinned.{still_pinned}
use Rattle.restore_ends.specs.Results.{HasReplied}
use Rattle.restore_ends.proofs.Wanted.{never_unwanted}
use Rattle.running_restore.specs.Views.{RunningView, IsRunning}
use Rattle.running_restore.proofs.Closes.{has_replied}
use Rattle.running_restore.proofs.running.RunningRestore.end.Goals as goal

pub release-requires : goal.release-requires
release-requires g c =
    let s = c.self.inside in
    let running = subst (λ (r : RunningView). IsRunning c.args.keeper.now r) (sym c.self.view_is) c.requires.running in
    still_pinned s.before.value s.behind.value s.set s.version s.slots s.no s.ids.items s.worker.first.bytes s.worker.first.copying c.self.invariant.started.planned c.args.keeper.now running.follows

pub result_of-requires : goal.result_of-requires
result_of-requires g c =
    let s = c.self.inside in
    let told = g.O.Sink.told c.end-sink.result.0 in
    let running = subst (λ (r : RunningView). IsRunning c.args.keeper.now r) (sym c.self.view_is) c.requires.running in
    never_unwanted s.before.value s.behind.value c.args.keeper.now s.set s.version s.slots s.no s.ids.items s.worker.first s.got s.met (s.to.sent ++ held s.waiting) told c.args.reply c.self.invariant.started running
    (has_replied s.worker.first c.end.result s.to.sent (held s.waiting) s.reply.taken c.args.reply told c.end.ensures.same c.end-sink.result.1 c.end-sink.result.2 c.end-sink.ensures.loads c.end-sink.ensures.reply c.close.ensures c.close-2.ensures
    (ap (λ (r : RunningView). r.replied) c.self.view_is ∙ c.requires.reply) (sym c.end-sink.ensures.sink))

pub returns-clause-replied : goal.returns-clause-replied
returns-clause-replied g c =
    let s = c.self.inside in
    let told = g.O.Sink.told c.end-sink.result.0 in
    subst (λ (r : RunningView). HasReplied r.first r.sent c.args.reply told) c.self.view_is
    (has_replied s.worker.first c.end.result s.to.sent (held s.waiting) s.reply.taken c.args.reply told c.end.ensures.same c.end-sink.result.1 c.end-sink.result.2 c.end-sink.ensures.loads c.end-sink.ensures.reply c.close.ensures c.close-2.ensures
    (ap (λ (r : RunningView). r.replied) c.self.view_is ∙ c.requires.reply) (sym c.end-sink.ensures.sink))

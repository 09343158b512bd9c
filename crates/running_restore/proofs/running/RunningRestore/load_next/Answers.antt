use Rattle.std.proofs.Common.{◌+◌, [], ◌∷◌, ◌++◌, refl, sym, ◌∙◌, subst}
use Rattle.stage_flows.specs.Runs.{held}
use Rattle.running_restore.specs.Feeding.{HasFed}
use Rattle.running_restore.specs.Views.{RunningView, IsRunning}
use Rattle.running_restore.proofs.Feeds.{fed_nothing, loaded_of, next_entry, next_going, next_meets}
use Rattle.running_restore.proofs.running.RunningRestore.load_next.Goals as goal

pub returns-then-self-clause-fed : goal.returns-then-self-clause-fed
returns-then-self-clause-fed g c = fed_nothing c.args.keeper.now c.args.self.now

pub invariant_of-self : goal.invariant_of-self
invariant_of-self g c =
    let s = c.self.inside in
    let running = subst (λ (r : RunningView). IsRunning c.args.keeper.now r) (sym c.self.view_is) c.requires in
    let h = loaded_of s.behind.value c.args.keeper.now c.load_at-item.new.keeper s.no s.worker.first.copying.spots s.ids.items c.as_slice.result.now s.got s.met (s.to.sent ++ held s.waiting) c.load_at-item.result c.as_slice.ensures.value c.load_at-item.ensures.loaded running (c.self.invariant.going c.if-self.false) in
    record {
      loads_line = c.self.invariant.loads_line;
      reply_line = c.self.invariant.reply_line;
      started = c.self.invariant.started;
      going = λ part. next_going s.behind.value c.args.keeper.now c.load_at-item.new.keeper s.no s.worker.first.copying.spots s.ids.items s.got s.met s.to.sent s.waiting (sym c.is_some.ensures ∙ c.if-is_some.false) c.load_at-item.result h c.met_by-self-inside.result c.met_by-self-inside.ensures (c.has_failed-self-inside.ensures part);
    }

pub returns-clause-fed : goal.returns-clause-fed
returns-clause-fed g c =
    let s = c.self.inside in
    let v = c.args.keeper.now in
    let w = c.load_at-item.new.keeper in
    let running = subst (λ (r : RunningView). IsRunning v r) (sym c.self.view_is) c.requires in
    let h = loaded_of s.behind.value c.args.keeper.now c.load_at-item.new.keeper s.no s.worker.first.copying.spots s.ids.items c.as_slice.result.now s.got s.met (s.to.sent ++ held s.waiting) c.load_at-item.result c.as_slice.ensures.value c.load_at-item.ensures.loaded running (c.self.invariant.going c.if-self.false) in
    let new : RunningView = record { from = s.before.value; behind = s.behind.value; set = s.set; version = s.version; slots = s.slots; number = s.no; ids = s.ids.items; first = s.worker.first; got = s.got + 1; met = c.met_by-self-inside.result; sent = s.to.sent ++ c.load_at-item.result ∷ []; replied = s.reply.taken } in
    subst (λ (r : RunningView). HasFed v w r new) c.self.view_is (record {
      more = 1;
      met = c.met_by-self-inside.result;
      sent = s.to.sent ++ c.load_at-item.result ∷ [];
      is = refl;
      stays = c.load_at-item.ensures.stays;
      gets = c.load_at-item.ensures.gets;
      meets = next_meets s.behind.value v w s.no s.worker.first.copying.spots s.ids.items s.got s.met s.to.sent s.waiting (sym c.is_some.ensures ∙ c.if-is_some.false) c.load_at-item.result h c.met_by-self-inside.result c.met_by-self-inside.ensures;
    })

pub returns-clause-running : goal.returns-clause-running
returns-clause-running g c =
    let s = c.self.inside in
    let running = subst (λ (r : RunningView). IsRunning c.args.keeper.now r) (sym c.self.view_is) c.requires in
    let h = loaded_of s.behind.value c.args.keeper.now c.load_at-item.new.keeper s.no s.worker.first.copying.spots s.ids.items c.as_slice.result.now s.got s.met (s.to.sent ++ held s.waiting) c.load_at-item.result c.as_slice.ensures.value c.load_at-item.ensures.loaded running (c.self.invariant.going c.if-self.false) in
    next_entry s.behind.value c.args.keeper.now c.load_at-item.new.keeper s.no s.worker.first.copying.spots s.ids.items s.got s.met s.to.sent s.waiting (sym c.is_some.ensures ∙ c.if-is_some.false) c.load_at-item.result h c.met_by-self-inside.result c.met_by-self-inside.ensures

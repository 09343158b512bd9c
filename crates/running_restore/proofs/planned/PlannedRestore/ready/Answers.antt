use Rattle.std.proofs.Common.{refl, ap, ◌∙◌}
use Rattle.std.proofs.lemmas.List.{append-nil}
use Rattle.restore_stage.specs.Assembling.{Assembling}
use Rattle.running_restore.specs.Views.{PlannedView}
use Rattle.running_restore.proofs.Starts.{has_started, starts_entry}
use Rattle.running_restore.proofs.planned.PlannedRestore.ready.Goals as goal

pub returns-clause-starts : goal.returns-clause-starts
returns-clause-starts g c =
    let p = c.self.inside in
    let is = c.of-first.ensures ∙ c.new-stage.ensures in
    let new = c.self.invariant.1 in
    record {
      from = ap (λ (q : PlannedView). q.from) c.self.view_is;
      behind = ap (λ (q : PlannedView). q.behind) c.self.view_is;
      set = ap (λ (q : PlannedView). q.set) c.self.view_is;
      version = ap (λ (q : PlannedView). q.version) c.self.view_is;
      slots = ap (λ (q : PlannedView). q.slots) c.self.view_is;
      sink_is = ap (λ (a : Assembling). a.sink) is;
      got = refl;
      met = refl;
      sent = append-nil p.lines.to.sent ∙ new.loads_unused.0;
      number = ap (λ (q : PlannedView). q.number) c.self.view_is;
      replied = new.reply_unused.1;
      started = has_started p.before.value p.behind.value p.set p.version p.slots p.no p.ids.items p.bytes p.copier c.self.invariant.0 (g.O.Sink.told c.args.sink) p.lines.from p.lines.back c.of-first.result.value is new.loads_unused.1 new.reply_unused.0;
      running = starts_entry p.before.value p.behind.value p.set p.version p.slots p.no p.ids.items p.bytes p.copier c.self.invariant.0 (g.O.Sink.told c.args.sink) p.lines.from p.lines.back c.of-first.result.value is _ (append-nil p.lines.to.sent ∙ new.loads_unused.0);
    }

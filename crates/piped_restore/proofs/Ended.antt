-- A restore that ran alone ends as the call on one thread does.
use Rattle.std.proofs.Common.{◌≡◌, true, ℕ, ◌≤◌, ◌<◌, List, map, Option, Result, Ok, Err, refl, sym, ap, subst, ◌∙◌, arith}
use Rattle.std.specs.Option.{option_map}
use Rattle.vault_types.specs.declared.Answer.{Answer}
use Rattle.vault_types.specs.declared.Answer.TheVariants.{Restored}
use Rattle.vault_types.specs.declared.Fault.{Fault}
use Rattle.vault_types.specs.declared.Fault.TheVariants as fault
use Rattle.vault_types.specs.declared.Whole.{Whole}
use Rattle.vault_types.specs.declared.Spot.{Spot}
use Rattle.vault_types.specs.Events.{Core, Pin}
use Rattle.vault_types.specs.Plans.{requests, loads}
use Rattle.vault_types.specs.State.{State, is_kept}
use Rattle.vault_traits.specs.Counts.{counted_up}
use Rattle.vault_traits.specs.Told.{SinkTold}
use Rattle.store_model.specs.Calls.{RestoresLine}
use Rattle.keeper_catalog.specs.View.{View, Keeps, HasCore}
use Rattle.keeper_core.specs.declared.pinning.Pinned.{Pinned}
use Rattle.keeper_core.specs.Keeping.{IsStateWith, IsKnownStray}
use Rattle.keeper_core.specs.Releases.{Releases}
use Rattle.restore_stage.specs.declared.Reply.{Reply}
use Rattle.restore_stage.specs.declared.Reply.TheVariants as reply
use Rattle.serial_restore.specs.Going.{Stays, IsCopied, IsRestoreStopped, IsAtMostLeast}
use Rattle.serial_restore.specs.Restoring.{whole_of, IsRestoreFault, IsLeft, HasGone}
use Rattle.serial_restore.proofs.Goings.{copied_gone, stopped_gone}
use Rattle.serial_restore.proofs.Lines.{kept_line}
use Rattle.restore_ends.specs.Results.{HasReplied, result_of, faults_at}
use Rattle.restore_ends.proofs.Alone.{alone}
use Rattle.restore_ends.proofs.Ran.{ran, ran_through, ran_answer, ran_into, ran_off}
use Rattle.running_restore.specs.Planning.{BeginsAt}
use Rattle.running_restore.specs.Views.{PlannedView, RunningView, Starts}
use Rattle.piped_restore.specs.Running.{RunsAlone}

-- what was copied or stopped, with the counts of the keeper now
copied_now : (u w now : View) (number : ℕ) (before behind : SinkTold) (spots : List Spot) (whole : Option Whole) (slots n : ℕ) → Stays u now → now.told.gets ≡ w.told.gets → IsCopied u w number before behind spots whole slots n → IsCopied u now number before behind spots whole slots n
copied_now u w now number before behind spots whole slots n stays gets h = record {
  stays = stays;
  later = h.later;
  least = h.least;
  gets = gets ∙ h.gets;
  full = h.full;
  taken = h.taken;
  sum = h.sum;
}

stopped_now : (u w now : View) (number : ℕ) (before behind : SinkTold) (spots : List Spot) (whole : Option Whole) (IsFew : ℕ → Type 0) (f : Fault) → Stays u now → now.told.gets ≡ w.told.gets → IsRestoreStopped u w number before behind spots whole IsFew f
    → IsRestoreStopped u now number before behind spots whole IsFew fault.Memory
stopped_now u w now number before behind spots whole IsFew f stays gets h = record {
  stays = stays;
  later = h.later;
  loads = h.loads;
  few = h.few;
  gets = gets ∙ h.gets;
  cause = λ K pinned. tt;
  front = h.front;
  found = λ payloads given. tt;
  short = λ payloads given. tt;
}

-- a fault, where the shelf has failed at least as often
later_fault : (v w x : View) (before now : SinkTold) (S : State) (s n : ℕ) (f : Fault) → w.told.faults ≤ x.told.faults → IsRestoreFault v w before now S s n f → IsRestoreFault v x before now S s n f
later_fault v w x before now S s n (fault.NotKept t m floor latest) later h = h
later_fault v w x before now S s n (fault.StoreFault i) later h = (h.0, let low = h.1 in omega (arith, low, later))
later_fault v w x before now S s n (fault.WriteFault i) later h = h
later_fault v w x before now S s n (fault.Damaged k i why) later h = h
later_fault v w x before now S s n fault.Memory later h = h
later_fault v w x before now S s n other later h = absurd h

gone_later : (v w x : View) (before now : SinkTold) (s n slots : ℕ) (f : Fault) → IsLeft v x s n → x.told.gets ≡ w.told.gets → w.told.faults ≤ x.told.faults → HasGone v w before now s n slots (Err f) → HasGone v x before now s n slots (Err f)
gone_later v w x before now s n slots f left gets later h = record {
  left = left;
  sink = h.sink;
  kind = tt;
  cause = λ K keeps. later_fault v w x before now K.state s n f later (h.cause K keeps);
  ok = tt;
  err = λ tells K k keeps is. let c = h.err tells K k keeps is in record { loads = c.loads; few = c.few; gets = gets ∙ c.gets; front = c.front };
  short = h.short;
}

module _ (now after : View) (r : RunningView) (y : Reply) (sink : SinkTold) (a : RunsAlone now r) (released : Releases r.number now after) (h : HasReplied r.first r.sent y sink) where
  -- what it would have left of the keeper, but for the release
  abbrev w : View
  w = alone r.behind (counted_up r.behind.told.gets r.got) (faults_at r.behind.told.faults r.met)

  abbrev v : View
  v = alone r.from (counted_up r.from.told.gets r.got) (faults_at r.behind.told.faults r.met)

  abbrev pin : Pinned
  pin = a.started.planned.pin

  of_pin : Releases pin.no now after
  of_pin = subst (λ (k : ℕ). Releases k now after) (sym a.started.planned.number_is) released

  same_gets : after.told.gets ≡ v.told.gets
  same_gets = released.gets ∙ a.gets ∙ ap (λ (g : ℕ). counted_up g r.got) a.started.planned.pinned.shelf.2

  later : v.told.faults ≤ after.told.faults
  later = let low = a.met in let up = released.later in omega (arith, low, up)

  gone_alone : HasGone r.from v r.first.sink h.last.sink r.set r.version r.slots (result_of r.set r.version r.ids y)
  gone_alone = ran r.from r.behind now r.set r.version r.slots r.number r.ids r.first h.last r.got r.met r.sent h.waiting y h.more a.started.planned a.started.taken a.started.unsent a.running h.same h.line.same h.replied

  left_behind : (f : Fault) → IsRestoreStopped r.behind w pin.no r.first.sink h.last.sink pin.spots.items (option_map (whole_of r.set r.version) pin.whole) (IsAtMostLeast (requests (map (λ q. q.id) pin.spots.items)) r.slots) f → IsLeft r.from after r.set r.version
  unfolding of_pin
  left_behind f stopped =
      (stopped_gone r.from r.behind now after r.first.sink h.last.sink r.set r.version r.slots a.started.planned.core a.started.planned.range pin a.started.planned.pinned of_pin fault.Memory
      (stopped_now r.behind w now pin.no r.first.sink h.last.sink pin.spots.items (option_map (whole_of r.set r.version) pin.whole) (IsAtMostLeast (requests (map (λ q. q.id) pin.spots.items)) r.slots) f a.stays a.gets stopped)).left

  gone_behind : HasGone r.from after r.first.sink h.last.sink r.set r.version r.slots (result_of r.set r.version r.ids y)
  unfolding gone_alone left_behind same_gets later of_pin
  gone_behind = at y refl
    where
      at : (z : Reply) → y ≡ z → HasGone r.from after r.first.sink h.last.sink r.set r.version r.slots (result_of r.set r.version r.ids y)
      at (reply.Written bytes) is =
          subst (λ (o : Result Answer Fault). HasGone r.from after r.first.sink h.last.sink r.set r.version r.slots o)
          (ran_answer r.from r.behind now r.set r.version r.slots r.number r.ids r.first h.last r.got r.met r.sent h.waiting y h.more a.started.planned a.started.taken a.started.unsent a.running h.same h.line.same h.replied bytes is)
          (copied_gone r.from r.behind now after r.first.sink h.last.sink r.set r.version r.slots a.started.planned.core a.started.planned.range pin a.started.planned.pinned of_pin (loads r.first.copying.steps)
          (copied_now r.behind w now pin.no r.first.sink h.last.sink pin.spots.items (option_map (whole_of r.set r.version) pin.whole) r.slots (loads r.first.copying.steps) a.stays a.gets
          (ran_through r.from r.behind now r.set r.version r.slots r.number r.ids r.first h.last r.got r.met r.sent h.waiting y h.more a.started.planned a.started.taken a.started.unsent a.running h.same h.line.same h.replied bytes is)))
      at (reply.Failed f) is =
          subst (λ (z : Reply). HasGone r.from after r.first.sink h.last.sink r.set r.version r.slots (result_of r.set r.version r.ids z)) (sym is)
          (gone_later r.from v after r.first.sink h.last.sink r.set r.version r.slots f
          (left_behind f (ran_into r.from r.behind now r.set r.version r.slots r.number r.ids r.first h.last r.got r.met r.sent h.waiting y h.more a.started.planned a.started.taken a.started.unsent a.running h.same h.line.same h.replied f is))
          same_gets later
          (subst (λ (z : Reply). HasGone r.from v r.first.sink h.last.sink r.set r.version r.slots (result_of r.set r.version r.ids z)) is gone_alone))
      at reply.Unwanted is =
          subst (λ (z : Reply). HasGone r.from after r.first.sink h.last.sink r.set r.version r.slots (result_of r.set r.version r.ids z)) (sym is)
          (gone_later r.from v after r.first.sink h.last.sink r.set r.version r.slots fault.Memory
          (left_behind fault.Memory (ran_off r.from r.behind now r.set r.version r.slots r.number r.ids r.first h.last r.got r.met r.sent h.waiting y h.more a.started.planned a.started.taken a.started.unsent a.running h.same h.line.same h.replied is))
          same_gets later
          (subst (λ (z : Reply). HasGone r.from v r.first.sink h.last.sink r.set r.version r.slots (result_of r.set r.version r.ids z)) is gone_alone))

-- the restore as it began, and as it ended
module _ (v u now after : View) (s n slots : ℕ) (p : PlannedView) (told sink : SinkTold) (r q : RunningView) (y : Reply) (b : BeginsAt v u s n slots p) (st : Starts p told r)
    (same : q ≡ record r { got = q.got; met = q.met; sent = q.sent; replied = q.replied }) (a : RunsAlone now q) (released : Releases q.number now after) (h : HasReplied q.first q.sent y sink) (result : Result Answer Fault) (is : result ≡ result_of q.set q.version q.ids y) where
  pub ended_gone : HasGone v after told sink s n slots result
  ended_gone =
      subst (λ (o : Result Answer Fault). HasGone v after told sink s n slots o) (sym is)
      (subst (λ (t : SinkTold). HasGone v after told t s n slots (result_of q.set q.version q.ids y)) h.sink_is
      (subst (λ (t : SinkTold). HasGone v after t h.last.sink s n slots (result_of q.set q.version q.ids y)) (ap (λ (z : RunningView). z.first.sink) same ∙ st.sink_is)
      (subst (λ (k : ℕ). HasGone v after q.first.sink h.last.sink s n k (result_of q.set q.version q.ids y)) (ap (λ (z : RunningView). z.slots) same ∙ st.slots ∙ b.slots_are)
      (subst (λ (k : ℕ). HasGone v after q.first.sink h.last.sink s k q.slots (result_of q.set q.version q.ids y)) (ap (λ (z : RunningView). z.version) same ∙ st.version ∙ b.version)
      (subst (λ (k : ℕ). HasGone v after q.first.sink h.last.sink k q.version q.slots (result_of q.set q.version q.ids y)) (ap (λ (z : RunningView). z.set) same ∙ st.set ∙ b.set)
      (subst (λ (f : View). HasGone f after q.first.sink h.last.sink q.set q.version q.slots (result_of q.set q.version q.ids y)) (ap (λ (z : RunningView). z.from) same ∙ st.from ∙ b.from)
      (gone_behind now after q y sink a released h)))))))

  pub ended_line : HasCore v → s < 256 → ((K : Core) → Keeps v K → true ≡ is_kept K.state s n) → (pins : List Pin) → RestoresLine (IsStateWith v pins) (IsStateWith after pins) (IsKnownStray v) (IsKnownStray after) s n slots v.told after.told told sink result
  unfolding ended_gone
  ended_line core range kept = kept_line v after told sink s n slots result core range kept ended_gone

  pub ended_rest : (after.job ≡ v.job) × (after.pins ≡ v.pins)
  unfolding ended_gone
  ended_rest = (ended_gone.left.job, ended_gone.left.pins)

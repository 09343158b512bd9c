-- A restore that runs alone: it starts, it is given payloads, and its reply is taken.
use Rattle.std.proofs.Common.{◌≡◌, ⊎_elim, ℕ, ◌≤◌, List, [], ◌∷◌, ◌++◌, ◌+◌, Option, None, Some, refl, sym, ap, subst, ◌∙◌, arith}
use Rattle.std.proofs.Math.Nat.{le_refl}
use Rattle.vault_traits.specs.Counts.{counted_up, Rose, RiseFrom}
use Rattle.vault_traits.specs.Told.{SinkTold}
use Rattle.script_laws.proofs.Rising.{counted_up_twice}
use Rattle.keeper_catalog.specs.View.{View}
use Rattle.restore_stage.specs.declared.Reply.{Reply}
use Rattle.serial_restore.specs.Going.{Stays}
use Rattle.serial_restore.proofs.Loads.{stays_same, stays_then}
use Rattle.restore_turns.specs.Entry.{MeetsFirst}
use Rattle.restore_ends.specs.Results.{faults_at}
use Rattle.running_restore.specs.Feeding.{HasFed}
use Rattle.running_restore.specs.Planning.{BeginsAt}
use Rattle.running_restore.specs.Views.{PlannedView, RunningView, IsStarted, IsRunning, Starts}
use Rattle.piped_restore.specs.Running.{RunsAlone}

-- it has just started
pub starts_alone : (v u : View) (s n slots : ℕ) (p : PlannedView) (sink : SinkTold) (r : RunningView) → BeginsAt v u s n slots p → Starts p sink r → RunsAlone u r
starts_alone v u s n slots p sink r b st = subst (λ (w : View). RunsAlone w r) (st.behind ∙ b.behind) (record {
  running = st.running;
  started = st.started;
  stays = stays_same r.behind;
  gets = ap (counted_up r.behind.told.gets) (sym st.got);
  met = subst (λ (o : Option ℕ). faults_at r.behind.told.faults o ≤ r.behind.told.faults) (sym st.met) (le_refl r.behind.told.faults);
})

risen : (v w m : ℕ) → RiseFrom v (m ∷ []) w → m ≤ w
risen v w m rise = rise.1

-- where it met a fault, the shelf has failed as often
still_met : (before v w : ℕ) (was met : Option ℕ) → before ≤ v → MeetsFirst v was met w → faults_at before was ≤ v → faults_at before met ≤ w
still_met before v w was met low meets old = ⊎_elim
    (λ same. subst (λ (o : Option ℕ). faults_at before o ≤ w) (sym same.0) (let rise = same.1 in omega (arith, rise, old)))
    (λ first. subst (λ (o : Option ℕ). faults_at before o ≤ w) (sym first.1.1) (risen v w first.1.0 first.1.2))
    meets

-- some loads more were tried
pub fed_alone : (v w : View) (r q : RunningView) → HasFed v w r q → IsRunning w q → RunsAlone v r → RunsAlone w q
fed_alone v w r q fed running alone = record {
  running = running;
  started = subst (λ (y : RunningView). IsStarted y) (sym fed.is) alone.started;
  stays = subst (λ (y : RunningView). Stays y.behind w) (sym fed.is) (stays_then r.behind v w alone.stays fed.stays);
  gets = subst (λ (y : RunningView). w.told.gets ≡ counted_up y.behind.told.gets y.got) (sym fed.is)
      (fed.gets ∙ ap (λ (g : ℕ). counted_up g fed.more) alone.gets ∙ counted_up_twice r.behind.told.gets r.got fed.more);
  met = subst (λ (y : RunningView). faults_at y.behind.told.faults y.met ≤ w.told.faults) (sym fed.is)
      (still_met r.behind.told.faults v.told.faults w.told.faults r.met fed.met alone.stays.later fed.meets alone.met);
}

-- its reply was taken
pub replied_alone : (v : View) (r q : RunningView) (replied : List Reply) → q ≡ record r { replied = replied } → RunsAlone v r → RunsAlone v q
replied_alone v r q replied is alone = subst (λ (y : RunningView). RunsAlone v y) (sym is) (record {
  running = alone.running;
  started = alone.started;
  stays = alone.stays;
  gets = alone.gets;
  met = alone.met;
})

-- the rest of it is as it was at first
pub rest_replied : (first r q : RunningView) (replied : List Reply) → r ≡ record first { got = r.got; met = r.met; sent = r.sent; replied = r.replied } → q ≡ record r { replied = replied } → q ≡ record first { got = q.got; met = q.met; sent = q.sent; replied = q.replied }
rest_replied first r q replied same is = subst (λ (y : RunningView). y ≡ record first { got = y.got; met = y.met; sent = y.sent; replied = y.replied }) (sym is) (ap (λ (z : RunningView). record z { replied = replied }) same)

pub rest_fed : (v w : View) (first r q : RunningView) → r ≡ record first { got = r.got; met = r.met; sent = r.sent; replied = r.replied } → HasFed v w r q → q ≡ record first { got = q.got; met = q.met; sent = q.sent; replied = q.replied }
rest_fed v w first r q same fed = subst (λ (y : RunningView). y ≡ record first { got = y.got; met = y.met; sent = y.sent; replied = y.replied }) (sym fed.is)
    (ap (λ (z : RunningView). record z { got = r.got + fed.more; met = fed.met; sent = fed.sent }) same)

-- the first reply that was taken
pub first_reply : (r q : RunningView) (y : Reply) → r.replied ≡ [] → q ≡ record r { replied = r.replied ++ y ∷ [] } → q.replied ≡ y ∷ []
first_reply r q y none is = ap (λ (z : RunningView). z.replied) is ∙ ap (λ (ys : List Reply). ys ++ y ∷ []) none

-- The steps of a run, and what they leave of the restores that run: a restore begins, it goes on, and it ends.
use Rattle.std.proofs.Common.{◌≡◌, ◌≤◌, ℕ, false, List, [], ◌∷◌, ◌++◌, Some, Ok, refl, sym, ◌∙◌, ap, subst}
use Rattle.std.specs.Prelude.{IfSome}
use Rattle.std.proofs.lemmas.List.{map-append}
use Rattle.vault_types.specs.declared.Answer.{Answer}
use Rattle.vault_types.specs.declared.Limits.{Limits}
use Rattle.vault_types.specs.declared.Line.TheVariants.{Restore}
use Rattle.vault_types.specs.Lists.{has}
use Rattle.vault_traits.specs.Counts.{added}
use Rattle.vault_traits.specs.Files.{ChangesOnly, IsEmptied, IsNewWriter, IsWhatWasTaken}
use Rattle.vault_traits.specs.Told.{SinkTold, PlacesTold}
use Rattle.restore_pins.specs.Pins.{Listed, numbers}
use Rattle.commit_laws.proofs.Listing.{all_right}
use Rattle.store_model.specs.Calls.{restore_answer}
use Rattle.keeper_catalog.specs.View.{View}
use Rattle.keeper_core.specs.declared.pinning.Pinned.{Pinned}
use Rattle.keeper_core.specs.Keeping.{IsKnownStray}
use Rattle.keeper_core.specs.Releases.{Releases}
use Rattle.restore_stage.specs.declared.Reply.{Reply}
use Rattle.beside_laws.specs.Running.{with_answer}
use Rattle.beside_laws.specs.Steps.{EndsRestore}
use Rattle.beside_runner.specs.Turns.{IsBegun, GoesOn}
use Rattle.restore_turns.specs.Entry.{IsStateBeside}
use Rattle.restore_turns.specs.Started.{IsPlanned}
use Rattle.restore_turns.proofs.Begins.{begins_restore}
use Rattle.restore_turns.proofs.Leaves.{pin_leaves, load_leaves, release_leaves}
use Rattle.restore_turns.proofs.Pinned.{pinning_follows, release_follows}
use Rattle.restore_turns.proofs.Turns.{load_follows, goes_on_step}
use Rattle.restore_ends.specs.Results.{HasReplied, result_of}
use Rattle.restore_ends.proofs.Closes.{ends_restore}
use Rattle.running_restore.specs.Feeding.{HasFed}
use Rattle.running_restore.specs.Planning.{BeginsAt}
use Rattle.running_restore.specs.Views.{PlannedView, RunningView, Starts, IsStarted, IsRunning}
use Rattle.beside_steps.specs.Holding.{BesideView, past_of, IsOne, Holds}
use Rattle.beside_steps.proofs.Held.{told_before, told_on, holds_more, holds_on, holds_less}

-- ---- a restore begins: its sink was opened, its version pinned, and its stage made

module _ (v u : View) (s n slots : ℕ) (name : List ℕ) (place : ℕ) (before behind : PlacesTold) (p : PlannedView) (sink : SinkTold) (e : BesideView) (b : BeginsAt v u s n slots p) (st : Starts p sink e.restore)
    (opened : ChangesOnly before.files behind.files name IsEmptied) (fresh : IsNewWriter before.files sink) where
  planned_at : IsPlanned v u s n slots p.number p.ids p.bytes p.copying
  planned_at =
      subst (λ (w : View). IsPlanned w u s n slots p.number p.ids p.bytes p.copying) b.from
      (subst (λ (w : View). IsPlanned p.from w s n slots p.number p.ids p.bytes p.copying) b.behind
      (subst (λ (k : ℕ). IsPlanned p.from p.behind k n slots p.number p.ids p.bytes p.copying) b.set
      (subst (λ (k : ℕ). IsPlanned p.from p.behind p.set k slots p.number p.ids p.bytes p.copying) b.version
      (subst (λ (k : ℕ). IsPlanned p.from p.behind p.set p.version k p.number p.ids p.bytes p.copying) b.slots_are b.planned))))

  abbrev pin : Pinned
  pin = planned_at.pin

  later_pinned : v.told.faults ≤ u.told.faults
  later_pinned = let core = planned_at.core in (planned_at.pinned.causes core.0 core.1).later

  number_is : pin.no ≡ e.restore.number
  number_is = planned_at.number_is ∙ sym st.number

  pub begun : e.name ≡ name → e.place ≡ place → before.faults ≤ behind.faults → behind.read_faults ≡ before.read_faults → behind.write_faults ≡ before.write_faults
      → IsBegun (λ k. k.told) IsStateBeside IsKnownStray (record { keeper = v; places = before }) (Restore s n name slots) place (record { keeper = u; places = behind }) (past_of e)
  begun named placed faults reads writes =
      let h = begins_restore v u s n slots name before behind (pin_leaves v u s n (Ok pin) planned_at.core planned_at.pinned) planned_at.pinned.shelf.2 opened faults reads writes in
      let from : e.restore.from ≡ v = st.from ∙ b.from in
      let set : e.restore.set ≡ s = st.set ∙ b.set in
      let version : e.restore.version ≡ n = st.version ∙ b.version in
      let cache : e.restore.slots ≡ slots = st.slots ∙ b.slots_are in
      record {
        set = s;
        version = n;
        name = name;
        cache = slots;
        is = refl;
        begins = h.0;
        there = h.1;
        past = λ i. record { from = from i; set = set i; version = version i; name = named i; cache = cache i; got = st.got i; met = st.met i; place = placed i };
      }

  one_begun : IsOne u behind.files e
  one_begun = record {
    running = subst (λ (w : View). IsRunning w e.restore) (st.behind ∙ b.behind) st.running;
    started = st.started;
    fresh = ap (λ (t : SinkTold). t.faults) st.sink_is ∙ fresh.fresh;
    empty = subst (λ (t : SinkTold). IfSome behind.files (λ f. t.taken ≡ Some [])) (sym st.sink_is) (told_on (sink.taken ≡ Some []) before.files behind.files (told_before before.files behind.files name IsEmptied opened) fresh.taken);
    unreplied = λ is. st.replied;
  }

  pub holds_begun : (es : List BesideView) → Holds v before.files es → Holds u behind.files (es ++ e ∷ [])
  unfolding later_pinned number_is one_begun
  holds_begun es h =
      let pinned = planned_at.pinned in
      let given : (ids : List ℕ) × (u.pins ≡ v.pins ++ record { number = pin.no; version = n; ids = ids } ∷ []) = pinned.given in
      let one : Listed = record { number = pin.no; version = n; ids = given.0 } in
      holds_more v u before.files behind.files later_pinned (told_before before.files behind.files name IsEmptied opened) (λ k. pinning_follows s n v u (Ok pin) pinned k) es e h
      (pinned.same.2 ∙ h.job)
      (ap numbers given.1 ∙ map-append (λ (l : Listed). l.number) v.pins (one ∷ []) ∙ ap (λ (k : ℕ). numbers v.pins ++ k ∷ []) number_is)
      (subst (λ (k : ℕ). has k (numbers v.pins) ≡ false) number_is pinned.fresh)
      one_begun

-- ---- it goes on: some loads were tried

module _ (v w : View) (places : PlacesTold) (e d : BesideView) (fed : HasFed v w e.restore d.restore) where
  pub gone_on : d.name ≡ e.name → d.place ≡ e.place → GoesOn (λ k. k.told) IsStateBeside IsKnownStray (record { keeper = v; places = places }) (past_of e) (past_of d) (record { keeper = w; places = places })
  gone_on named placed = record {
    gets = fed.more;
    met = fed.met;
    on = goes_on_step (λ k. k.told) IsStateBeside IsKnownStray (record { keeper = v; places = places }) (record { keeper = w; places = places }) v w (load_leaves v w fed.stays) refl refl refl e.restore.met fed.more fed.met fed.gets fed.meets;
    is = λ i. record { from = (fed.is i).from; set = (fed.is i).set; version = (fed.is i).version; name = named i; cache = (fed.is i).slots; got = (fed.is i).got; met = (fed.is i).met; place = placed i };
  }

  one_fed : d.ended ≡ e.ended → IsRunning w d.restore → IsOne v places.files e → IsOne w places.files d
  one_fed same running one = record {
    running = running;
    started = subst (λ (r : RunningView). IsStarted r) (sym fed.is) one.started;
    fresh = ap (λ (r : RunningView). r.first.sink.faults) fed.is ∙ one.fresh;
    empty = subst (λ (r : RunningView). IfSome places.files (λ f. r.first.sink.taken ≡ Some [])) (sym fed.is) one.empty;
    unreplied = λ is. ap (λ (r : RunningView). r.replied) fed.is ∙ one.unreplied (sym same ∙ is);
  }

  pub holds_fed : d.ended ≡ e.ended → IsRunning w d.restore → (first others : List BesideView) → Holds v places.files (first ++ e ∷ others) → Holds w places.files (first ++ d ∷ others)
  unfolding one_fed
  holds_fed same running first others h =
      holds_on v w places.files places.files fed.stays.later (λ some. some) (λ k. load_follows v w k fed.stays) first e d others h fed.stays.job fed.stays.pins (ap (λ (r : RunningView). r.number) fed.is)
      (one_fed same running (all_right (IsOne v places.files) first (e ∷ others) h.each).0)

-- ---- it ends: its pin is released, and its sink is closed

module _ (v x : View) (before behind : PlacesTold) (e : BesideView) (sink : SinkTold) (r : Releases e.restore.number v x) (closed : ChangesOnly before.files behind.files e.name (IsWhatWasTaken sink.taken)) where
  pub has_ended : (limits : Limits) (y : Reply) → IsOne v before.files e → HasReplied e.restore.first e.restore.sent y sink
      → behind.faults ≡ before.faults → behind.read_faults ≡ before.read_faults → behind.write_faults ≡ added before.write_faults sink.faults
      → EndsRestore (λ k. k.told) IsStateBeside IsKnownStray limits (record { keeper = v; places = before })
      (with_answer (restore_answer behind.write_faults (result_of e.restore.set e.restore.version e.restore.ids y)) (past_of e)) (record { keeper = x; places = behind })
  has_ended limits y one replied place read write =
      ends_restore (λ k. k.told) IsStateBeside IsKnownStray limits (record { keeper = v; places = before }) (record { keeper = x; places = behind }) (past_of e) e.restore.from e.restore.behind v e.restore.number e.restore.ids e.restore.first e.restore.sent y sink
      one.started one.running replied (λ S other here. here) one.fresh one.empty (release_leaves v x e.restore.number r) r.gets closed place read write

  -- with the answer that its result comes to
  pub has_answered : (limits : Limits) (y : Reply) → IsOne v before.files e → HasReplied e.restore.first e.restore.sent y sink
      → behind.faults ≡ before.faults → behind.read_faults ≡ before.read_faults → behind.write_faults ≡ added before.write_faults sink.faults
      → (answer : Answer) → restore_answer behind.write_faults (result_of e.restore.set e.restore.version e.restore.ids y) ≡ answer
      → EndsRestore (λ k. k.told) IsStateBeside IsKnownStray limits (record { keeper = v; places = before }) (with_answer answer (past_of e)) (record { keeper = x; places = behind })
  has_answered limits y one replied place read write answer is =
      subst (λ (a : Answer). EndsRestore (λ (k : View). k.told) IsStateBeside IsKnownStray limits (record { keeper = v; places = before }) (with_answer a (past_of e)) (record { keeper = x; places = behind })) is
      (has_ended limits y one replied place read write)

  pub holds_ended : (first others : List BesideView) → Holds v before.files (first ++ e ∷ others) → Holds x behind.files (first ++ others)
  holds_ended first others h =
      holds_less v x before.files behind.files r.later (told_before before.files behind.files e.name (IsWhatWasTaken sink.taken) closed) first e others h
      (λ k apart. release_follows e.restore.number v x r k apart) r.same.1 r.pins

-- A keeper with counts of its own: what is pinned, and what is known of a restore that runs, over a shelf whose gets begin at none.
use Rattle.std.proofs.Common.{◌≡◌, ◌≤◌, ℕ, List, [], ◌∷◌, ◌++◌, Option, Result, Ok, refl}
use Rattle.vault_types.specs.declared.Answer.{Answer}
use Rattle.vault_types.specs.declared.Fault.{Fault}
use Rattle.vault_types.specs.declared.Fault.TheVariants as fault
use Rattle.vault_types.specs.declared.Spot.{Spot}
use Rattle.vault_types.specs.Events.{Core, Change, Pin}
use Rattle.vault_types.specs.State.{State}
use Rattle.vault_traits.specs.Told.{SinkTold}
use Rattle.store_model.specs.Calls.{Keeping, RestoresLine}
use Rattle.keeper_catalog.specs.View.{View, Keeps, HasCore}
use Rattle.keeper_core.specs.declared.pinning.Pinned.{Pinned}
use Rattle.keeper_core.specs.Keeping.{IsStateWith, IsKnownStray}
use Rattle.keeper_core.specs.Pins.{PinsVersion}
use Rattle.serial_restore.specs.Going.{Stays, HasPinned}
use Rattle.restore_assembler.specs.Copying.{Copying}
use Rattle.restore_stage.specs.declared.Loaded.{Loaded}
use Rattle.restore_stage.specs.declared.Loaded.TheVariants as loaded
use Rattle.pin_laws.specs.Following.{Follows}
use Rattle.pin_laws.proofs.Calls.{by_none, further}
use Rattle.restore_turns.specs.Sent.{IsOwnPayload, IsLoadFault, IsSent, AreSent}
use Rattle.restore_turns.specs.Entry.{IsStateBeside, IsEntry}
use Rattle.restore_turns.specs.Started.{IsPlanned}

abbrev pub alone : View → ℕ → ℕ → View
alone u gets faults = record {
  told = record { blobs = u.told.blobs; history = u.told.history; faults = faults; gets = gets };
  memo = u.memo;
  index = u.index;
  pins = u.pins;
  job = u.job;
  pending = u.pending;
}

module _ (u : View) (gets faults : ℕ) where
  pub alone_keeps : (K : Core) → Keeps u K → Keeps (alone u gets faults) K
  alone_keeps K keeps = record {
    core = keeps.core;
    held = keeps.held;
    memo = keeps.memo;
    index = keeps.index;
    pins = keeps.pins;
    alike = keeps.alike;
    pinned = keeps.pinned;
    job = keeps.job;
    pending = keeps.pending;
  }

  pub alone_back : (K : Core) → Keeps (alone u gets faults) K → Keeps u K
  alone_back K keeps = record {
    core = keeps.core;
    held = keeps.held;
    memo = keeps.memo;
    index = keeps.index;
    pins = keeps.pins;
    alike = keeps.alike;
    pinned = keeps.pinned;
    job = keeps.job;
    pending = keeps.pending;
  }

  pub alone_stays : u.told.faults ≤ faults → Stays u (alone u gets faults)
  alone_stays later = record {
    memo = refl;
    index = refl;
    pins = refl;
    job = refl;
    pending = refl;
    blobs = refl;
    history = refl;
    later = later;
    keeps = alone_keeps;
  }

-- gets that begin at none
abbrev pub fresh_of : View → View
fresh_of v = alone v 0 v.told.faults

-- a pin, as one over such a shelf
pub pin_alone : (s n : ℕ) (v u : View) (pin : Pinned) → PinsVersion s n v u (Ok pin) → PinsVersion s n (fresh_of v) (fresh_of u) (Ok pin)
pin_alone s n v u pin p = record {
  ok = λ tells K k keeps kept. let h = p.ok tells K k (alone_back v 0 v.told.faults K keeps) kept in (alone_keeps u 0 u.told.faults _ h.0, h.1);
  whole = λ tells K k keeps kept. p.whole tells K k (alone_back v 0 v.told.faults K keeps) kept;
  pinned = λ K keeps. let h = p.pinned K (alone_back v 0 v.told.faults K keeps) in (h.0, h.1, h.2, alone_keeps u 0 u.told.faults _ h.3);
  given = p.given;
  fresh = p.fresh;
  lists = λ K keeps. p.lists K (alone_back u 0 u.told.faults K keeps);
  core = (p.core.0, alone_keeps u 0 u.told.faults p.core.0 p.core.1);
  err = p.err;
  same = p.same;
  shelf = (p.shelf.0, p.shelf.1, refl);
  causes = λ K keeps. p.causes K (alone_back v 0 v.told.faults K keeps);
}

-- what was sent, as over such a shelf
module _ (u : View) (number : ℕ) (spots : List Spot) where
  pinned_back : (K : Core) → HasPinned (fresh_of u) number spots K → HasPinned u number spots K
  pinned_back K h = record { keeps = alone_back u 0 u.told.faults K h.keeps; listed = h.listed }

  fault_alone : (met : Option ℕ) (f : Fault) → IsLoadFault u number spots met f → IsLoadFault (fresh_of u) number spots met f
  fault_alone met (fault.StoreFault n) h = h
  fault_alone met (fault.Damaged k n y) h = λ K pinned. h K (pinned_back K pinned)
  fault_alone met fault.Memory h = h
  fault_alone met other h = h

  sent_alone : (met : Option ℕ) (items : List Loaded) → AreSent u number spots met items → AreSent (fresh_of u) number spots met items
  sent_alone met [] all = tt
  sent_alone met (loaded.Payload p ∷ items) all = (
    record {
      whole = λ K c keeps lists. all.0.whole K c (alone_back u 0 u.told.faults K keeps) lists;
      own = λ tells K c keeps lists. all.0.own tells K c (alone_back u 0 u.told.faults K keeps) lists;
    },
    sent_alone met items all.1,
  )
  sent_alone met (loaded.Failed f ∷ items) all = (fault_alone met f all.0, sent_alone met items all.1)

  pub entry_alone : (now : View) (loads : List ℕ) (got : ℕ) (met : Option ℕ) (sent : List Loaded) → IsEntry u now number spots loads got met sent → IsEntry (fresh_of u) now number spots loads got met sent
  entry_alone now loads got met sent e = record {
    follows = further (fresh_of u) u now number (by_none (fresh_of u) u number (λ some. some) (alone_back u 0 u.told.faults)) e.follows;
    later = e.later;
    core = (e.core.0, record { keeps = alone_keeps u 0 u.told.faults e.core.0 e.core.1.keeps; listed = e.core.1.listed });
    asked = e.asked;
    all = sent_alone met sent e.all;
    tried = e.tried;
    rose = e.rose;
  }

-- a state that is kept beside pins, so too
pub state_fresh : (v : View) (S : State) (other : Option Change) → IsStateBeside v S other → IsStateBeside (fresh_of v) S other
state_fresh v S other here =
    let is = here.1 in (
      here.0,
      record {
        core = is.core;
        keeps = alone_keeps v 0 v.told.faults is.core is.keeps;
        state = is.state;
        change = is.change;
        job = is.job;
        pins = is.pins;
        told = is.told;
        changed = is.changed;
        images = is.images;
      },
    )

-- the line of a restore beside any pins, from what is kept in other words
pub line_beside : (v x : View) (Before : Keeping) (before now : SinkTold) (s n slots : ℕ) (result : Result Answer Fault) → ((S : State) (other : Option Change) → Before S other → IsStateBeside v S other)
    → ((pins : List Pin) → RestoresLine (IsStateWith v pins) (IsStateWith x pins) (IsKnownStray v) (IsKnownStray x) s n slots v.told x.told before now result)
    → RestoresLine Before (IsStateBeside x) (IsKnownStray v) (IsKnownStray x) s n slots v.told x.told before now result
line_beside v x Before before now s n slots result becomes line = record {
  done = (line []).done;
  kind = (line []).kind;
  causes = (line []).causes;
  steps = λ S other limits here. let h = becomes S other here in let st = (line h.0).steps S other limits h.1 in (st.0, (h.0, st.1), st.2);
  blobs = λ S other here. let h = becomes S other here in (line h.0).blobs S other h.1;
  written = λ S other here. let h = becomes S other here in (line h.0).written S other h.1;
  short = λ S other here. let h = becomes S other here in (line h.0).short S other h.1;
}

-- what was planned, as over such a shelf
pub planned_alone : (v u : View) (s n slots number : ℕ) (ids : List ℕ) (bytes : ℕ) (c : Copying) → IsPlanned v u s n slots number ids bytes c → IsPlanned (fresh_of v) (fresh_of u) s n slots number ids bytes c
planned_alone v u s n slots number ids bytes c p = record {
  core = (p.core.0, alone_keeps v 0 v.told.faults p.core.0 p.core.1);
  range = p.range;
  kept = λ K keep. p.kept K (alone_back v 0 v.told.faults K keep);
  pin = p.pin;
  pinned = pin_alone s n v u p.pin p.pinned;
  number_is = p.number_is;
  bytes_are = p.bytes_are;
  plan = p.plan;
}

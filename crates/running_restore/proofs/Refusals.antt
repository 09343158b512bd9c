-- A restore that is planned; and one that is refused before it begins, which is what the call on one thread would have come to.
use Rattle.std.proofs.Common.{◌≡◌, ℕ, ◌<◌, true, List, Option, None, Result, Ok, Err, refl, sym, ◌∙◌, subst}
use Rattle.std.specs.Prelude.{IfErr, IsErrAnd}
use Rattle.std.proofs.Math.Nat.{le_refl}
use Rattle.std.specs.Option.{option_map}
use Rattle.vault_types.specs.declared.Fault.{Fault}
use Rattle.vault_types.specs.declared.Fault.TheVariants as fault
use Rattle.vault_types.specs.declared.Whole.{Whole}
use Rattle.vault_types.specs.Events.{Core, Pin, with_pins}
use Rattle.vault_types.specs.State.{is_kept}
use Rattle.vault_traits.specs.Told.{SinkTold}
use Rattle.restore_assembler.specs.Copying.{Copying}
use Rattle.store_model.specs.Calls.{RestoresLine}
use Rattle.keeper_catalog.specs.View.{View, Keeps, HasCore}
use Rattle.keeper_core.specs.declared.pinning.Pinned.{Pinned}
use Rattle.keeper_core.specs.Keeping.{IsStateWith, IsKnownStray}
use Rattle.keeper_core.specs.Pins.{PinsVersion}
use Rattle.keeper_core.specs.Releases.{Releases}
use Rattle.serial_restore.specs.Restoring.{whole_of, HasGone}
use Rattle.serial_restore.proofs.Goings.{pin_gone, stopped_gone}
use Rattle.serial_restore.proofs.Lines.{kept_line}
use Rattle.serial_restore.proofs.Loads.{stops_early}
use Rattle.pin_laws.specs.Following.{Follows}
use Rattle.pin_laws.proofs.Calls.{by_event}
use Rattle.restore_turns.specs.Started.{IsPlanOf, IsPlanned}
use Rattle.running_restore.specs.Planning.{IsAtRest}

-- each pin stays over a restore that is over
pub gone_follows : (v x : View) (told : SinkTold) (s n slots : ℕ) (f : Fault) → HasGone v x told told s n slots (Err f) → (number : ℕ) → Follows v x number
gone_follows v x told s n slots f gone number = record {
  tells = gone.left.tells;
  cores = λ K keeps. let stayed = gone.left.state K keeps in record { core = with_pins K.pins stayed.strays K; keeps = stayed.keeps; pinned = λ p is there. there };
}

-- there was no memory
pub memory_gone : (v : View) → HasCore v → (told : SinkTold) (s n slots : ℕ) → HasGone v v told told s n slots (Err fault.Memory)
memory_gone v core told s n slots = pin_gone v v told s n slots fault.Memory core (λ K keeps. keeps, refl) (refl, refl, refl, refl) (refl, refl, refl) (λ K keeps. le_refl v.told.faults) (λ K keeps. tt)

-- the pin was refused
pub unpinned_gone : (v u : View) → HasCore v → (s n : ℕ) (f : Fault) → PinsVersion s n v u (Err f) → (told : SinkTold) (slots : ℕ) → HasGone v u told told s n slots (Err f)
unpinned_gone v u core s n f p told slots = pin_gone v u told s n slots f core p.err p.same p.shelf (λ K keeps. (p.causes K keeps).later) (λ K keeps. (p.causes K keeps).each)

-- behind the pin there was no memory, and it was released
pub released_gone : (v u x : View) → HasCore v → (s n : ℕ) → s < 256 → (pin : Pinned) → PinsVersion s n v u (Ok pin) → Releases pin.no u x → (told : SinkTold) (slots : ℕ) → HasGone v x told told s n slots (Err fault.Memory)
released_gone v u x core s n range pin p r told slots = stopped_gone v u u x told told s n slots core range pin p r fault.Memory
    (stops_early u pin.no told pin.spots.items (option_map (whole_of s n) pin.whole) slots fault.Memory refl)

-- its line, beside any pins
pub refused_line : (v x : View) → HasCore v → (s n slots : ℕ) → s < 256 → ((K : Core) → Keeps v K → true ≡ is_kept K.state s n) → (f : Fault) → ((told : SinkTold) → HasGone v x told told s n slots (Err f))
    → (pins : List Pin) (told : SinkTold) → RestoresLine (IsStateWith v pins) (IsStateWith x pins) (IsKnownStray v) (IsKnownStray x) s n slots v.told x.told told told (Err f)
refused_line v x core s n slots range kept f gone pins told = kept_line v x told told s n slots (Err f) core range kept (gone told) pins

-- the same of a result
abbrev Refuses : View → View → ℕ → ℕ → ℕ → Fault → Type 0
Refuses v x s n slots f = (pins : List Pin) (told : SinkTold) → RestoresLine (IsStateWith v pins) (IsStateWith x pins) (IsKnownStray v) (IsKnownStray x) s n slots v.told x.told told told (Err f)

refused_as : {T : Type 0} (P : Fault → Type 0) (r : Result T Fault) (f : Fault) → IsErrAnd r (λ e. e ≡ f) → P f → IfErr r P
refused_as P (Ok x) f is h = tt
refused_as P (Err g) f is h = subst P (sym is) h

module _ (v : View) (core : HasCore v) (s n slots : ℕ) (range : s < 256) (kept : (K : Core) → Keeps v K → true ≡ is_kept K.state s n) where
  pub memory_refused : {T : Type 0} (r : Result T Fault) → IsErrAnd r (λ e. e ≡ fault.Memory) → IfErr r (Refuses v v s n slots)
  memory_refused r is = refused_as (Refuses v v s n slots) r fault.Memory is (refused_line v v core s n slots range kept fault.Memory (λ told. memory_gone v core told s n slots))

  pub pin_refused : {T : Type 0} (u : View) (f : Fault) → PinsVersion s n v u (Err f) → (r : Result T Fault) → IsErrAnd r (λ e. e ≡ f) → IfErr r (Refuses v u s n slots)
  pin_refused u f p r is = refused_as (Refuses v u s n slots) r f is (refused_line v u core s n slots range kept f (λ told. unpinned_gone v u core s n f p told slots))

  module _ (u x : View) (pin : Pinned) (p : PinsVersion s n v u (Ok pin)) (r : Releases pin.no u x) where
    released : (told : SinkTold) → HasGone v x told told s n slots (Err fault.Memory)
    released told = released_gone v u x core s n range pin p r told slots

    abbrev no_sink : SinkTold
    no_sink = record { taken = None; faults = 0 }

    pub released_line : Refuses v x s n slots fault.Memory
    released_line = refused_line v x core s n slots range kept fault.Memory released

    pub released_rest : IsAtRest v x
    released_rest = let left = (released no_sink).left in record { pins = left.pins; job = left.job; gets = r.gets ∙ p.shelf.2 }

    pub released_follows : (number : ℕ) → Follows v x number
    released_follows number = gone_follows v x no_sink s n slots fault.Memory (released no_sink) number

  -- it is planned
  pub planned_of : (before behind u : View) → before ≡ v → behind ≡ u → (pin : Pinned) → PinsVersion s n v u (Ok pin) → (ids : List ℕ) (c : Copying) (whole : Option Whole) → whole ≡ option_map (whole_of s n) pin.whole → IsPlanOf pin.spots.items whole slots ids c
      → IsPlanned before behind s n slots pin.no ids pin.length c
  planned_of before behind u before_is behind_is pin p ids c whole whole_is plan =
      subst (λ (w : View). IsPlanned w behind s n slots pin.no ids pin.length c) (sym before_is)
      (subst (λ (w : View). IsPlanned v w s n slots pin.no ids pin.length c) (sym behind_is) (record {
        core = core;
        range = range;
        kept = kept;
        pin = pin;
        pinned = p;
        number_is = refl;
        bytes_are = refl;
        plan = subst (λ (o : Option Whole). IsPlanOf pin.spots.items o slots ids c) whole_is plan;
      }))

-- A restore that is planned: its pin stays, and it has tried no load.
use Rattle.std.proofs.Common.{◌≡◌, ◌≢◌, ℕ, true, false, List, [], ◌∷◌, ◌++◌, map, None, Result, Ok, refl, sym, ap, subst, ◌∙◌}
use Rattle.std.specs.Prelude.{Contains}
use Rattle.std.proofs.Math.Nat.{le_refl}
use Rattle.std.proofs.lemmas.List.Elements.{Contains-append_right}
use Rattle.std.specs.List.{AllByRecursion}
use Rattle.vault_types.specs.declared.Spot.{Spot}
use Rattle.vault_types.specs.Events.{Core, Pin, with_pins}
use Rattle.vault_types.specs.Lists.{has}
use Rattle.vault_types.specs.Tables.{Container}
use Rattle.restore_pins.specs.Pins.{numbers}
use Rattle.restore_pins.proofs.Callers.{numbers-same}
use Rattle.restore_assembler.specs.Copying.{Copying}
use Rattle.state_laws.proofs.Members.{here, in_map}
use Rattle.keeper_catalog.specs.View.{View, Keeps, HasCore}
use Rattle.keeper_core.specs.declared.pinning.Pinned.{Pinned}
use Rattle.keeper_core.specs.Calls.{HasListed}
use Rattle.keeper_core.specs.Pins.{PinsVersion}
use Rattle.keeper_core.specs.Releases.{Releases}
use Rattle.keeper_core.proofs.Following.{pin_follows}
use Rattle.vault_types.specs.declared.Fault.{Fault}
use Rattle.serial_restore.specs.Going.{HasPinned}
use Rattle.serial_restore.proofs.Goings.{pinned_core}
use Rattle.pin_laws.specs.Following.{Follows}
use Rattle.pin_laws.proofs.Calls.{still, by_release}
use Rattle.restore_turns.specs.Entry.{IsEntry, IsGoing}
use Rattle.restore_turns.specs.Started.{IsPlanned}
use Rattle.restore_turns.proofs.Leaves.{tells_same}
use Rattle.restore_turns.proofs.Turns.{entry_begins}

-- each pin stays over another one's pin and release
pub pinning_follows : (s n : ℕ) (v u : View) (r : Result Pinned Fault) → PinsVersion s n v u r → (number : ℕ) → Follows v u number
pinning_follows s n v u r p number = pin_follows v u number (tells_same v.told.blobs u.told.blobs p.shelf.0) (λ q pin. pin.number ≡ q.no) (λ K pin. (d : Container) → Contains pin.containers d → Contains K.state.containers d) r p.pinned p.err

pub release_follows : (gone : ℕ) (v u : View) → Releases gone v u → (number : ℕ) → number ≢ gone → Follows v u number
release_follows gone v u r number apart = by_release v u number r.tells gone u.memo.strays apart r.releases

module _ (v u : View) (s n slots number : ℕ) (ids : List ℕ) (bytes : ℕ) (c : Copying) (p : IsPlanned v u s n slots number ids bytes c) where
  -- its pin is one of those behind it, and so of any later ones until its release
  pub still_pinned : (now : View) → Follows u now number → has number (numbers now.pins) ≡ true
  still_pinned now follows =
      let K = p.core.0 in
      let q = p.pinned.pinned K p.core.1 in
      let J : Core = with_pins (K.pins ++ q.0 ∷ []) K.strays K in
      let is : q.0.number ≡ number = q.1 ∙ p.number_is in
      let then = follows.cores J q.3 in
      let there = then.pinned q.0 is (Contains-append_right K.pins (q.0 ∷ []) q.0 (here q.0 [])) in
      subst (λ (ns : List ℕ). has number ns ≡ true) (numbers-same now.pins then.core.pins then.keeps.pins)
      (subst (λ (m : ℕ). has m (map (λ (x : Pin). x.number) then.core.pins) ≡ true) is (in_map (λ (x : Pin). x.number) then.core.pins q.0 there))

  held : (K : Core) × HasPinned u number c.spots K
  held =
      subst (λ (m : ℕ). (K : Core) × HasPinned u m c.spots K) p.number_is
      (subst (λ (qs : List Spot). (K : Core) × HasPinned u p.pin.no qs K) (sym p.plan.spots_are)
      (pinned_core u p.pin.no p.pin.spots.items p.pinned.core p.pinned.lists))

  pub planned_entry : IsEntry u u number c.spots ids 0 None [] × IsGoing 0 None []
  unfolding held
  planned_entry = entry_begins u u number c.spots ids (still u number) (le_refl u.told.faults) held p.plan.asked

-- the number of a pin that is new is no other's
pub other_number : (number other : ℕ) (v : View) → has number (numbers v.pins) ≡ true → has other (numbers v.pins) ≡ false → number ≢ other
other_number number other v pinned fresh same = let e : true ≡ false = sym pinned ∙ ap (λ (m : ℕ). has m (numbers v.pins)) same ∙ fresh in cc

-- What a pin, a load and a release leave of the state that the keeper keeps, beside any other pins.
use Rattle.std.proofs.Common.{◌≡◌, inl, ⊎_elim, ◌+◌, ◌≤◌, ℕ, List, [], ◌∷◌, ◌++◌, length, Option, Result, Ok, Err, refl, sym, ap, subst, ◌∙◌, arith, length-append}
use Rattle.std.specs.Prelude.{Contains, IsSome, IfOk, OnErr}
use Rattle.std.proofs.lemmas.List.Elements.{Contains-append_cases}
use Rattle.vault_types.specs.declared.Fault.{Fault}
use Rattle.vault_types.specs.declared.Name.{Name}
use Rattle.vault_types.specs.Events.{Core, Change, Pin, IsNear, with_pins, pins_without}
use Rattle.vault_types.specs.RecipeForms.{KeepsRecipes}
use Rattle.vault_types.specs.Shelf.{Blobs, recipe_name, blob_at}
use Rattle.vault_types.specs.State.{State}
use Rattle.vault_types.specs.Tables.{Container}
use Rattle.vault_traits.specs.Crash.{LeavesNowIfTold, LeavesOnlyIfTold}
use Rattle.vault_traits.specs.Told.{ShelfTold}
use Rattle.vault_traits.proofs.Moments.{stays, ends}
use Rattle.deletion_laws.specs.Releasing.{IsReleased}
use Rattle.state_laws.proofs.Changing.{recipe_no_table, recipe_no_payload}
use Rattle.keeper_catalog.specs.View.{View, Keeps, HasCore}
use Rattle.keeper_core.specs.declared.pinning.Pinned.{Pinned}
use Rattle.keeper_core.specs.Keeping.{IsKnownStray}
use Rattle.keeper_core.specs.Pins.{PinsVersion}
use Rattle.keeper_core.specs.Releases.{Releases}
use Rattle.serial_restore.specs.Going.{Stays}
use Rattle.beside_laws.specs.Steps.{StraysLeft, LeavesState}
use Rattle.pin_laws.specs.Following.{GoesOnTelling}
use Rattle.restore_turns.specs.Entry.{IsStateBeside}

abbrev pub Leaves : View → View → Type 0
Leaves old new = LeavesState (λ v. v.told) IsStateBeside IsKnownStray old new

-- a shelf that tells the same blobs tells them
pub tells_same : (a b : Option Blobs) → b ≡ a → IsSome a → IsSome b
tells_same a b same some = subst (λ (o : Option Blobs). IsSome o) (sym same) some

-- a call that leaves the shelf but for its counts, of anything with one
module _ {K : Type 0} (shelf : K → ShelfTold) (keeps : K → State → Option Change → Type 0) (known : K → Name → Type 0) (old new : K) where
  pub still_leaves : ((S : State) (other : Option Change) → keeps old S other → keeps new S other) → ((n : Name) → known new n → known old n)
      → (shelf new).blobs ≡ (shelf old).blobs → (shelf new).history ≡ (shelf old).history → (shelf old).faults ≤ (shelf new).faults → LeavesState shelf keeps known old new
  still_leaves on strays blobs history later = record {
    keeps_on = on;
    strays = record { later = later; others = []; few = λ below. omega arith; each = λ n behind. inl (strays n behind) };
    recipes = λ S other here s v k range is. ap (λ (b : Option Blobs). blob_at b (recipe_name s v)) blobs;
    crash = λ S other here now. stays (IsNear S other) (shelf old).history (shelf new).history history now;
  }

-- a call of a keeper that leaves each core but for its pins and the strays
module _ (old new : View) where
  with_other_pins : ((K : Core) → Keeps old K → (ps : List Pin) × (strays : List Name) × Keeps new (with_pins ps strays K)) → GoesOnTelling old new → new.pending ≡ old.pending
      → ((K : Core) → Keeps old K → LeavesNowIfTold old.told.history (IsNear K.state K.other) → LeavesOnlyIfTold old.told.history new.told.history (IsNear K.state K.other))
      → ((K : Core) → Keeps old K → (t m : ℕ) → blob_at new.told.blobs (recipe_name t m) ≡ blob_at old.told.blobs (recipe_name t m))
      → StraysLeft (IsKnownStray old) (IsKnownStray new) old.told new.told → Leaves old new
  with_other_pins keeps tells pending moment recipes strays = record {
    keeps_on = λ S other here.
        let is = here.1 in
        let h = keeps is.core is.keeps in (
          h.0,
          record {
            core = with_pins h.0 h.1 is.core;
            keeps = h.2;
            state = is.state;
            change = is.change;
            job = is.job;
            pins = refl;
            told = tells is.told;
            changed = is.changed;
            images = λ none. ends (IsNear S other) old.told.history new.told.history (at S other here (is.images (sym pending ∙ none)));
          },
        );
    strays = strays;
    recipes = λ S other here s v k range is. recipes here.1.core here.1.keeps s v;
    crash = at;
  }
    where
      at : (S : State) (other : Option Change) → IsStateBeside old S other → LeavesNowIfTold old.told.history (IsNear S other) → LeavesOnlyIfTold old.told.history new.told.history (IsNear S other)
      at S other here now =
          let is = here.1 in
          subst (λ (T : State). LeavesOnlyIfTold old.told.history new.told.history (IsNear T other)) is.state
          (subst (λ (o : Option Change). LeavesOnlyIfTold old.told.history new.told.history (IsNear is.core.state o)) is.change
          (moment is.core is.keeps
          (subst (λ (o : Option Change). LeavesNowIfTold old.told.history (IsNear is.core.state o)) (sym is.change)
          (subst (λ (T : State). LeavesNowIfTold old.told.history (IsNear T other)) (sym is.state) now))))

  on_same_shelf : new.memo ≡ old.memo → new.pending ≡ old.pending → new.told.blobs ≡ old.told.blobs → new.told.history ≡ old.told.history → old.told.faults ≤ new.told.faults
      → ((K : Core) → Keeps old K → (ps : List Pin) × (strays : List Name) × Keeps new (with_pins ps strays K)) → Leaves old new
  on_same_shelf memo pending blobs history later keeps = with_other_pins keeps (tells_same old.told.blobs new.told.blobs blobs) pending
      (λ K was now. stays (IsNear K.state K.other) old.told.history new.told.history history now)
      (λ K was t m. ap (λ (b : Option Blobs). blob_at b (recipe_name t m)) blobs)
      (record { later = later; others = []; few = λ below. omega arith; each = λ q known. inl (subst (λ (l : List Name). Contains l q) (ap (λ m. m.strays) memo) known) })

  -- a load
  pub load_leaves : Stays old new → Leaves old new
  load_leaves s = on_same_shelf s.memo s.pending s.blobs s.history s.later (λ K was. (K.pins, K.strays, s.keeps K was))

  -- a pin, or one that was refused
  pub pin_leaves : (s n : ℕ) (r : Result Pinned Fault) → HasCore old → PinsVersion s n old new r → Leaves old new
  pin_leaves s n r core p = on_same_shelf p.same.0 p.same.3 p.shelf.0 p.shelf.1 (p.causes core.0 core.1).later (at r p.pinned p.err)
    where
      at : (r : Result Pinned Fault) → IfOk r (λ q. (K : Core) → Keeps old K → (pin : Pin) × (pin.number ≡ q.no) × ((c : Container) → Contains pin.containers c → Contains K.state.containers c) × Keeps new (with_pins (K.pins ++ pin ∷ []) K.strays K))
          → OnErr r (((K : Core) → Keeps old K → Keeps new K) × (new.pins ≡ old.pins)) → (K : Core) → Keeps old K → (ps : List Pin) × (strays : List Name) × Keeps new (with_pins ps strays K)
      at (Ok q) pinned err K was = let h = pinned K was in (K.pins ++ h.0 ∷ [], K.strays, h.3)
      at (Err f) pinned err K was = (K.pins, K.strays, err.0 K was)

  -- a release
  pub release_leaves : (number : ℕ) → Releases number old new → Leaves old new
  release_leaves number r = with_other_pins (λ K was. (pins_without number K.pins, new.memo.strays, r.releases K was)) r.tells r.same.2 r.any_moment
      (λ K was t m. r.others K was (recipe_name t m) (unreleased K t m))
      (record {
        later = r.later;
        others = r.added.0;
        few = λ below.
            let a = r.few below in
            let b : length new.memo.strays ≡ length old.memo.strays + length r.added.0 = ap length r.added.1 ∙ length-append old.memo.strays r.added.0 in
            omega (arith, a, b, r.later);
        each = λ q known. Contains-append_cases old.memo.strays r.added.0 q (subst (λ (l : List Name). Contains l q) r.added.1 known);
      })
    where
      unreleased : (K : Core) (t m : ℕ) → IsReleased K number (recipe_name t m) → ⊥
      unreleased K t m released = ⊎_elim (λ table. recipe_no_table t m released.id table) (λ payload. recipe_no_payload t m released.id payload) released.is

-- What a keeper keeps between two lines, with whatever pins, is what the laws of lines speak of.
use Rattle.std.specs.Prelude.{◌≡◌, ◌⊎◌, ℕ, List, [], ◌∷◌, Option, Some, None, IsSome, IsSomeAnd, IfSome, Contains}
use Rattle.std.proofs.Common.{⊎_elim, sym, subst}
use Rattle.std.proofs.lemmas.Bool.{false≢true}
use Rattle.vault_types.specs.declared.Name.{Name}
use Rattle.vault_types.specs.declared.Pending.{Pending}
use Rattle.vault_types.specs.declared.Pending.TheVariants as pending
use Rattle.vault_types.specs.State.{State, IsValid}
use Rattle.vault_types.specs.Shelf.{Blobs}
use Rattle.vault_types.specs.Events.{Core, Change, Pin, pinned_containers, IsChange, IsNear, IsNeeded}
use Rattle.restore_pins.specs.Pins.{Listed, AreListsOf, numbers}
use Rattle.state_laws.specs.Parts.{HeldIfTold}
use Rattle.keeper_catalog.specs.View.{View}
use Rattle.store_model.specs.Strays.{IsStray, StraysOf}
use Rattle.store_model.specs.View.{IsKept}
use Rattle.keeper_core.specs.Keeping.{IsKnownStray}
use Rattle.restore_turns.specs.Entry.{IsStateBeside}
use Rattle.vault_traits.specs.Told.{Files}
use Rattle.beside_steps.specs.Holding.{Holds}

near_told : (told : Option Blobs) (K : Core) → IsSome told → HeldIfTold told K
    → IsSomeAnd told (IsNear K.state K.other)
near_told None K some held = absurd (false≢true some)
near_told (Some m) K some held = held.near

change_of_set : (other : Option Change) (waits : Pending) (S : State)
    → IfSome other (λ h. (s : ℕ) × (waits ≡ pending.FailedFor s) × IsChange S s h)
    → IfSome other (λ h. (s : ℕ) × IsChange S s h)
change_of_set None waits S is = tt
change_of_set (Some h) waits S is = (is.0, is.2)

-- the blobs stand for the state that is kept, or nearly
pub kept_beside : (v : View) (S : State) (other : Option Change) → IsStateBeside v S other → IsKept v.told S other
kept_beside v S other here =
    let is = here.1 in
    let K : Core = is.core in
    let changed : IfSome K.other (λ h. IsValid h.state) =
    subst (λ (o : Option Change). IfSome o (λ h. IsValid h.state)) (sym is.change) is.changed in
    let kept : IsKept v.told K.state K.other = record {
      blobs = near_told v.told.blobs K is.told is.keeps.held;
      valid = is.keeps.core.state;
      change = change_of_set K.other K.pending K.state is.keeps.core.other;
      changed = changed;
    } in
    subst (λ (T : State). IsKept v.told T other) is.state
    (subst (λ (o : Option Change). IsKept v.told K.state o) is.change kept)

none_listed : (pins : List Pin) → AreListsOf [] pins → pins ≡ []
none_listed [] lists = λ i. []
none_listed (p ∷ pins) lists = absurd lists

stray_listed : (told : Option Blobs) (K : Core) (n : Name) → K.pins ≡ [] → IsSome told → HeldIfTold told K
    → IfSome told (λ m. IsStray K.state m n) → Contains K.strays n
stray_listed None K n pins some held stray = absurd (false≢true some)
stray_listed (Some m) K n pins some held stray = ⊎_elim
    (λ needed.
    absurd
    (stray.unneeded
    (subst (λ (ps : List Pin). IsNeeded K.state (pinned_containers ps) n) pins needed)))
    (λ known. known)
    (held.others n stray.there)

-- with no pin each stray of the blobs is known
pub known_beside : (v : View) → v.pins ≡ [] → (S : State) (other : Option Change) → IsStateBeside v S other
    → (n : Name) → StraysOf v.told S n → IsKnownStray v n
known_beside v none S other here n stray =
    let is = here.1 in
    let no_pins = none_listed is.core.pins (subst (λ (ls : List Listed). AreListsOf ls is.core.pins) none is.keeps.pins) in
    subst (λ (ns : List Name). Contains ns n) (sym is.keeps.memo.strays)
    (stray_listed v.told.blobs is.core n no_pins is.told is.keeps.held
    (subst (λ (T : State). StraysOf v.told T n) (sym is.state) stray))

-- where none runs, nothing is pinned
pub none_pinned : (pins : List Listed) → numbers pins ≡ [] → pins ≡ []
none_pinned [] is = λ i. []
none_pinned (p ∷ pins) is = absurd (let e : p.number ∷ numbers pins ≡ [] = is in cc)

pub known_where_none_runs : (v : View) (files : Option Files) → Holds v files [] → (S : State)
    (other : Option Change) → IsStateBeside v S other → (n : Name) → StraysOf v.told S n → IsKnownStray v n
known_where_none_runs v files alone S other here n stray =
    known_beside v (none_pinned v.pins alone.pins) S other here n stray

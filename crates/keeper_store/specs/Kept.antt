-- A keeper with no job and no pin is a store between two lines: what it keeps is what the laws of
-- lines speak of.
use Rattle.std.specs.Prelude.{◌≡◌, ◌⊎◌, ℕ, List, [], Option, Some, None, IsSome, IsSomeAnd, IfSome, Contains}
use Rattle.std.proofs.Common.{⊎_elim, sym, subst}
use Rattle.std.proofs.lemmas.Bool.{false≢true}
use Rattle.vault_types.specs.declared.Name.{Name}
use Rattle.vault_types.specs.declared.Pending.{Pending}
use Rattle.vault_types.specs.declared.Pending.TheVariants as pending
use Rattle.vault_types.specs.State.{State, IsValid}
use Rattle.vault_types.specs.Shelf.{Blobs}
use Rattle.vault_types.specs.Events.{Core, Change, Pin, pinned_containers, IsChange, IsNear, IsNeeded}
use Rattle.state_laws.specs.Parts.{HeldIfTold}
use Rattle.keeper_catalog.specs.View.{View}
use Rattle.store_model.specs.Strays.{IsStray, StraysOf}
use Rattle.store_model.specs.View.{IsKept}
use Rattle.keeper_core.specs.Keeping.{IsStateOf, IsKnownStray}

near_told : (told : Option Blobs) (K : Core) → IsSome told → HeldIfTold told K
    → IsSomeAnd told (IsNear K.state K.other)
near_told None K some held = absurd (false≢true some)
near_told (Some m) K some held = held.near

change_of_set : (other : Option Change) (waits : Pending) (S : State)
    → IfSome other (λ h. (s : ℕ) × (waits ≡ pending.FailedFor s) × IsChange S s h)
    → IfSome other (λ h. (s : ℕ) × IsChange S s h)
change_of_set None waits S is = tt
change_of_set (Some h) waits S is = (is.0, is.2)

-- the blobs stand for the state that is kept, or nearly
pub kept_of : (v : View) (S : State) (other : Option Change) → IsStateOf v S other → IsKept v.told S other
kept_of v S other is =
    let K : Core = is.core in
    let changed : IfSome K.other (λ h. IsValid h.state) =
    subst (λ (o : Option Change). IfSome o (λ h. IsValid h.state)) (sym is.change) is.changed in
    let here : IsKept v.told K.state K.other = record {
      blobs = near_told v.told.blobs K is.told is.keeps.held;
      valid = is.keeps.core.state;
      change = change_of_set K.other K.pending K.state is.keeps.core.other;
      changed = changed;
    } in
    subst (λ (T : State). IsKept v.told T other) is.state
    (subst (λ (o : Option Change). IsKept v.told K.state o) is.change here)

stray_listed : (told : Option Blobs) (K : Core) (n : Name) → K.pins ≡ [] → IsSome told → HeldIfTold told K
    → IfSome told (λ m. IsStray K.state m n) → Contains K.strays n
stray_listed None K n pins some held stray = absurd (false≢true some)
stray_listed (Some m) K n pins some held stray = ⊎_elim
    (λ needed.
    absurd
    (stray.unneeded
    (subst (λ (ps : List Pin). IsNeeded K.state (pinned_containers ps) n) pins needed)))
    (λ known. known)
    (held.others n stray.there)

-- each stray of the blobs is known
pub known_of : (v : View) (S : State) (other : Option Change) → IsStateOf v S other → (n : Name)
    → StraysOf v.told S n → IsKnownStray v n
known_of v S other is n stray = subst (λ (ns : List Name). Contains ns n) (sym is.keeps.memo.strays)
    (stray_listed v.told.blobs is.core n is.pins is.told is.keeps.held
    (subst (λ (T : State). StraysOf v.told T n) (sym is.state) stray))

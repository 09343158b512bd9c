-- Lines that answer at once, beside whatever pins.
use Rattle.std.proofs.Common.{◌≡◌, inl, ℕ, ◌≤◌, List, [], ◌∷◌, Option, None, Some, Result, refl, subst, arith}
use Rattle.std.specs.Prelude.{IsSome}
use Rattle.std.proofs.Math.Nat.{le_refl}
use Rattle.vault_types.specs.declared.Answer.{Answer}
use Rattle.vault_types.specs.declared.Fault.{Fault}
use Rattle.vault_types.specs.declared.Limits.{Limits}
use Rattle.vault_types.specs.Events.{Core, Change, Pin}
use Rattle.vault_types.specs.State.{State}
use Rattle.vault_traits.specs.Counts.{Rose, RiseFrom}
use Rattle.vault_traits.specs.Files.{ChangesOnly, MayBeEmptied, AreKept}
use Rattle.vault_traits.specs.Told.{Files, ShelfTold}
use Rattle.store_model.specs.Calls.{DeletesLine}
use Rattle.keeper_catalog.specs.View.{View, Keeps}
use Rattle.keeper_core.specs.Keeping.{IsStateWith, IsKnownStray}
use Rattle.pin_laws.proofs.Calls.{still}
use Rattle.restore_turns.specs.Entry.{IsStateBeside}
use Rattle.beside_steps.specs.Holding.{BesideView, Holds}
use Rattle.beside_steps.proofs.Held.{holds_still, told_kept}

abbrev pub told_of : View → ShelfTold
told_of v = v.told

-- what a keeper tells of each core it tells of each state
pub state_in : (v : View) (P : State → Type 0) → ((K : Core) → Keeps v K → P K.state) → (S : State) (other : Option Change) → IsStateBeside v S other → P S
state_in v P each S other here = let is = here.1 in subst P is.state (each is.core is.keeps)

pub rise_later : (before now : ℕ) (ns : List ℕ) → RiseFrom before ns now → before ≤ now
rise_later before now [] rise = rise
rise_later before now (n ∷ ns) rise = let rest = rise_later n now ns rise.1 in let low = rose_low before n rise.0 in omega (arith, rest, low)
  where
    rose_low : (a b : ℕ) → Rose a b → a ≤ b
    rose_low a b rose = grind arith

-- a deletion
pub deletes_beside : (v w : View) (s n : ℕ) (result : Result Answer Fault) → ((pins : List Pin) → DeletesLine (IsStateWith v pins) (IsStateWith w pins) (IsKnownStray v) (IsKnownStray w) s n v.told w.told result)
    → DeletesLine (IsStateBeside v) (IsStateBeside w) (IsKnownStray v) (IsKnownStray w) s n v.told w.told result
deletes_beside v w s n result line = record {
  done = (line []).done;
  kind = (line []).kind;
  causes = (line []).causes;
  steps = λ S other limits here. let st = (line here.0).steps S other limits here.1 in (st.0, (here.0, st.1), st.2);
}

-- a call of the places alone
pub holds_over : (v : View) (a b : Option Files) → (IsSome b → IsSome a) → (es : List BesideView) → Holds v a es → Holds v b es
holds_over v a b back es h = holds_still v v a b (le_refl v.told.faults) back (λ n. still v n) es h h.job refl

pub told_kept_twice : (a b c : Option Files) → AreKept a b → AreKept b c → IsSome c → IsSome a
told_kept_twice a b c first second some = told_kept a b first (told_kept b c second some)

-- nothing was opened
pub unopened : (a : Option Files) (name : List ℕ) → ChangesOnly a a name MayBeEmptied
unopened None name = tt
unopened (Some f) name = (inl refl, λ other apart. refl)

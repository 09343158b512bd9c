-- What a keeper that was opened keeps.
use Rattle.std.proofs.Common.{◌≡◌, ◌≤◌, Option, Some, None, refl, sym, subst, ◌∙◌}
use Rattle.std.specs.FinMap as fin
use Rattle.std.specs.Prelude.{IsSome, IsSomeAnd, IfSome, Contains}
use Rattle.vault_types.specs.declared.Name.{Name}
use Rattle.vault_types.specs.declared.Pending.TheVariants as pending
use Rattle.vault_types.specs.State.{State, IsValid}
use Rattle.vault_types.specs.Shelf.{Blobs, Stands}
use Rattle.vault_traits.specs.Told.{ShelfTold}
use Rattle.vault_types.specs.FirstDamage.{Opens}
use Rattle.keeper_catalog.specs.View.{View, Keeps, opened_core}
use Rattle.store_model.specs.Leaves.{Begins}
use Rattle.store_model.specs.Strays.{IsStray, StraysOf}
use Rattle.store_model.specs.Early.{IsSameBut}
use Rattle.keeper_core.specs.Keeping.{IsStateOf, IsKnownStray}
use Rattle.state_laws.specs.Parts.{HeldIfTold}

-- a keeper that was opened over told blobs keeps their state, and what it knows as strays are strays of them
pub opened_state : (v : View) (T : State) → Keeps v (opened_core T v.memo.strays) → IsSome v.told.blobs → IsStateOf v T None
opened_state v T keeps told = record { changed = tt; images = λ e. absurd (let clash : pending.Opened ≡ pending.Not = sym keeps.pending ∙ e in cc); core = opened_core T v.memo.strays; keeps = keeps; state = refl; change = refl; job = refl; pins = refl; told = told }

pub opened_known : (v : View) (T : State) → Keeps v (opened_core T v.memo.strays) → IfSome v.told.blobs (λ m. (n : Name) → Contains v.memo.strays n → IsSome (fin.get m n)) → (n : Name) → IsKnownStray v n → StraysOf v.told T n
opened_known v T keeps found n known = at v.told.blobs keeps.held found
  where
    at : (b : Option Blobs) → HeldIfTold b (opened_core T v.memo.strays) → IfSome b (λ m. (q : Name) → Contains v.memo.strays q → IsSome (fin.get m q)) → IfSome b (λ m. IsStray T m n)
    at None held all = tt
    at (Some m) held all = record { there = all n known; unneeded = held.apart n known }

some_told : (b : Option Blobs) (P : Blobs → Type 0) → IsSomeAnd b P → IsSome b
some_told None P h = absurd h
some_told (Some m) P h = refl

-- the state as which the blobs open
pub opened_as : (b : Option Blobs) (T : State) → IfSome b (λ m. Opens m T) → IfSome b (λ m. (U : State) × Opens m U)
opened_as None T opens = tt
opened_as (Some m) T opens = (T, opens)

begun_keeps : (v : View) (b : Option Blobs) (T : State) → IfSome b (λ m. (U : State) → Stands m U → IsValid U → Keeps v (opened_core U v.memo.strays)) → IsSomeAnd b (λ m. Stands m T) → IsValid T → Keeps v (opened_core T v.memo.strays)
begun_keeps v None T each stands valid = absurd stands
begun_keeps v (Some m) T each stands valid = each T stands valid

module _ (v : View) (shelf : ShelfTold) (same : v.told.blobs ≡ shelf.blobs) (each : IfSome shelf.blobs (λ m. (U : State) → Stands m U → IsValid U → Keeps v (opened_core U v.memo.strays))) where
  pub begun : (T : State) → Begins shelf T → IsStateOf v T None
  begun T b = opened_state v T (begun_keeps v shelf.blobs T each b.blobs b.valid) (subst (λ (o : Option Blobs). IsSome o) (sym same) (some_told shelf.blobs (λ m. Stands m T) b.blobs))

  pub begun_strays : IfSome shelf.blobs (λ m. (n : Name) → Contains v.memo.strays n → IsSome (fin.get m n)) → (T : State) → Begins shelf T → (n : Name) → IsKnownStray v n → StraysOf shelf T n
  begun_strays found T b n known = subst (λ (o : Option Blobs). IfSome o (λ m. IsStray T m n)) same
      (opened_known v T (begun_keeps v shelf.blobs T each b.blobs b.valid) (subst (λ (o : Option Blobs). IfSome o (λ m. (q : Name) → Contains v.memo.strays q → IsSome (fin.get m q))) (sym same) found) n known)

pub same_but : (old new : ShelfTold) → (new.blobs ≡ old.blobs) × (new.history ≡ old.history) × (new.gets ≡ old.gets) → old.faults ≤ new.faults → IsSameBut old new
same_but old new same later = record { blobs = same.0; history = same.1; gets = same.2; later = later }

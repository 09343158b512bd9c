-- What a migration ensures, from what all its steps come to.
use Rattle.std.proofs.Common.{◌≡◌, ◌⊎◌, inl, inr, ⊎_elim, ℕ, ◌≤◌, true, false, IsTrue, [], ◌∷◌, Option, None, refl, ap, arith}
use Rattle.std.specs.Prelude.{Ok, Err}
use Rattle.vault_types.specs.declared.Answer.{Answer}
use Rattle.vault_types.specs.declared.Answer.TheVariants.{Migrated, Refused}
use Rattle.vault_types.specs.declared.Fault.{Fault}
use Rattle.vault_types.specs.declared.Fault.TheVariants as fault
use Rattle.vault_types.specs.declared.Kind.TheVariants as kind
use Rattle.vault_types.specs.declared.Name.{Name}
use Rattle.vault_types.specs.State.{State}
use Rattle.vault_types.specs.Events.{Change, IsNear}
use Rattle.vault_types.specs.Script.{is_refused}
use Rattle.vault_traits.specs.Crash.{LeavesNowIfTold}
use Rattle.keeper_catalog.specs.View.{View}
use Rattle.store_model.specs.Causes.{CausesRise, counts_of_shelf}
use Rattle.store_model.specs.Migrating.{GetsOf, MigratesIn, BearsMigration, MigratesStore, HaveFirst, fits_migrate, kept_versions}
use Rattle.keeper_core.specs.Keeping.{IsStateOf, IsKnownStray}
use Rattle.serial_migrate.specs.Going.{IsLaterOf, IsMigrateFault, AllDone, HasEndedBy}

module _ (u v : View) where
  -- what a migration comes to in a state
  abbrev Comes : Answer → State → Option Change → Type 0
  Comes answer S other =
      (next : Option Change) × IsStateOf v S next × ((next ≡ None) ⊎ (next ≡ other))
      × MigratesIn S answer u.told v.told
      × ((q : Name) → IsKnownStray v q → IsKnownStray u q)
      × (LeavesNowIfTold u.told.history (IsNear S other) → BearsMigration S other next answer u.told.history v.told.history)

  done_comes : (recipes : ℕ) (S : State) (other : Option Change) → AllDone u v S other recipes → Comes (Migrated recipes) S other
  done_comes recipes S other gone = (
    gone.next,
    gone.keeps,
    gone.next_other,
    record {
      forms = record {
        each = λ s n k below at. inr (gone.done s n k at (inl below));
        done = λ is s n k below at. gone.done s n k at (inl below);
      };
      gets = (gone.loads, gone.gets, gone.have);
      damage = tt;
      complete = λ sound. inl refl;
    },
    gone.strays,
    λ now. record { any_moment = gone.any_moment now; behind = λ is. gone.behind now },
  )

  no_refusal : (f : Fault) → is_refused (Refused f) ≡ false → ⊥
  no_refusal f is = let e : true ≡ false = is in cc

  few_of : (S : State) (f : Fault) (n : ℕ) → ((recipes least : ℕ) → HaveFirst u.told.blobs S (kept_versions S) recipes least → n ≤ least) → GetsOf u.told.blobs S (Refused f) n
  few_of S f n few = few

  ended_comes : (f : Fault) (S : State) (other : Option Change) → HasEndedBy u v S other f → Comes (Refused f) S other
  ended_comes f S other ended = (
    ended.next,
    ended.keeps,
    ended.next_other,
    record {
      forms = record {
        each = λ s n k below at. ended.forms s n k at;
        done = λ is s n k below at. absurd (no_refusal f is);
      };
      gets = (ended.loads, ended.gets, few_of S f ended.loads ended.few);
      damage = ended.damage;
      complete = λ sound. ⊎_elim (λ none. inr (inl (ap (λ (g : Fault). Refused g) none))) (λ counted. inr (inr counted)) (ended.sound sound);
    },
    ended.strays,
    λ now. record { any_moment = ended.any_moment now; behind = λ is. absurd (no_refusal f is) },
  )

  kind_of : (f : Fault) → IsMigrateFault u v f → IsTrue (fits_migrate (Refused f))
  kind_of (fault.StoreFault i) h = refl
  kind_of (fault.Damaged kind.Recipe i y) h = h
  kind_of (fault.Damaged kind.Payload i y) h = h
  kind_of fault.Memory h = refl
  kind_of f h = absurd h

  rises : (f : Fault) → u.told.faults ≤ v.told.faults → IsMigrateFault u v f → CausesRise (counts_of_shelf u.told) (counts_of_shelf v.told) (Refused f ∷ [])
  rises (fault.StoreFault i) later h = record { store = h; place = omega arith; read = omega arith; write = omega arith }
  rises (fault.Damaged d i y) later h = record { store = later; place = omega arith; read = omega arith; write = omega arith }
  rises fault.Memory later h = record { store = later; place = omega arith; read = omega arith; write = omega arith }
  rises f later h = absurd h

  pub all_done : (recipes : ℕ) → IsLaterOf u v → ((S : State) (other : Option Change) → IsStateOf u S other → AllDone u v S other recipes)
      → MigratesStore (IsStateOf u) (IsStateOf v) (IsKnownStray u) (IsKnownStray v) u.told v.told (Ok (Migrated recipes))
  all_done recipes later each = record {
    done = refl;
    kind = refl;
    causes = record { store = later.later; place = omega arith; read = omega arith; write = omega arith };
    steps = λ S other here. done_comes recipes S other (each S other here);
  }

  pub all_ended : (f : Fault) → IsLaterOf u v → IsMigrateFault u v f → ((S : State) (other : Option Change) → IsStateOf u S other → HasEndedBy u v S other f)
      → MigratesStore (IsStateOf u) (IsStateOf v) (IsKnownStray u) (IsKnownStray v) u.told v.told (Err f)
  all_ended f later why each = record {
    done = tt;
    kind = kind_of f why;
    causes = rises f later.later why;
    steps = λ S other here. ended_comes f S other (each S other here);
  }

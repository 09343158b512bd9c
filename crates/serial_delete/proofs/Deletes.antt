-- A deletion's line, from the clauses of the keeper's deletion.
use Rattle.std.proofs.Common.{◌≡◌, ◌⊎◌, inl, inr, ⊎_elim, ◌≤◌, ◌<◌, ◌&&◌, ℕ, Bool, true, false, IsTrue, List, [], ◌∷◌, Option, Some, None, refl, sym, ap, subst, arith}
use Rattle.std.specs.Prelude.{IsSome, IfSome, Result, Ok, Err, Contains, MatchOption, if◌then◌else◌, nat_lt, nat_eq}
use Rattle.std.proofs.lemmas.Bool.Decides.{nat_tests}
use Rattle.vault_types.specs.declared.Pending.TheVariants as pending
use Rattle.vault_types.specs.declared.Limits.{Limits}
use Rattle.vault_types.specs.declared.Name.{Name}
use Rattle.vault_types.specs.declared.Fault.{Fault}
use Rattle.vault_types.specs.declared.Fault.TheVariants as fault
use Rattle.vault_types.specs.declared.Answer.{Answer}
use Rattle.vault_types.specs.declared.Answer.TheVariants.{Removed, Refused}
use Rattle.vault_types.specs.declared.Line.TheVariants.{Delete}
use Rattle.vault_types.specs.State.{State, IsValid, latest_of}
use Rattle.vault_types.specs.Delete.{delete, removed}
use Rattle.vault_types.specs.Events.{Core, Change, Pin, IsNear, after_delete, after_refused, delete_change}
use Rattle.vault_types.specs.Script.{after, is_refused}
use Rattle.vault_types.specs.Refusals.{due_refusal, refuses_by_state, IsExact}
use Rattle.vault_traits.specs.Counts.{Rose}
use Rattle.vault_traits.specs.Crash.{LeavesNowIfTold}
use Rattle.keeper_catalog.specs.Catalog.{Memo}
use Rattle.keeper_catalog.specs.View.{View, Keeps, HasCore}
use Rattle.keeper_core.specs.Calls.{IsHalf, IsStill, IsDeletionFault, IsShelfFault}
use Rattle.keeper_core.specs.Deletes.{DeletesThrough}
use Rattle.store_model.specs.Calls.{DeletesLine}
use Rattle.store_model.specs.Causes.{CausesRise, fits, counts_of_shelf}
use Rattle.store_model.specs.Complete.{IsWellAnswered}
use Rattle.store_model.specs.Steps.{StepsOn}
use Rattle.store_model.specs.Table.{MeansLine}
use Rattle.vault_traits.proofs.Moments.{ends}
use Rattle.deletion_laws.proofs.Keeping.{delete_valid}
use Rattle.script_laws.proofs.Staying.{below_set}
use Rattle.script_laws.proofs.LineLemmas.{unmoved}
use Rattle.keeper_core.specs.Keeping.{IsStateWith, IsKnownStray}
use Rattle.script_laws.proofs.Forms.{shrunk_forms, still_forms}
use Rattle.keeper_core.proofs.BetweenLines.{changed_of, images_of}
use Rattle.serial_delete.proofs.Crashes.{still_bears, half_bears, half_next, done_bears, near_alone}

-- ---- numbers

is_below : (a b : ℕ) → a < b → nat_lt a b ≡ true
is_below a b low = by_test (nat_lt a b) refl
  where
    by_test : (x : Bool) → nat_lt a b ≡ x → nat_lt a b ≡ true
    by_test true is = is
    by_test false is = let e : b ≤ a = grind (arith, nat_tests) in absurd (omega (arith, e, low))

not_below : (a b : ℕ) → b ≤ a → nat_lt a b ≡ false
not_below a b high = by_test (nat_lt a b) refl
  where
    by_test : (x : Bool) → nat_lt a b ≡ x → nat_lt a b ≡ false
    by_test false is = is
    by_test true is = let e : a < b = grind (arith, nat_tests) in absurd (omega (arith, e, high))

below_or_not : (a b : ℕ) → (a < b) ⊎ (b ≤ a)
below_or_not a b = by_test (nat_lt a b) refl
  where
    by_test : (x : Bool) → nat_lt a b ≡ x → (a < b) ⊎ (b ≤ a)
    by_test true is = let e : a < b = grind (arith, nat_tests) in inl e
    by_test false is = let e : b ≤ a = grind (arith, nat_tests) in inr e

own_number : (s : ℕ) → nat_eq s s ≡ true
own_number s = search Rattle.std.proofs.Common.rules

both : {a b : Bool} → a ≡ true → b ≡ true → (a && b) ≡ true
both h j = rw (h, j) refl

-- ---- the table of answers

module _ (limits : Limits) (S : State) (s n : ℕ) where
  exact_below : (a : Answer) → n < latest_of S s → refuses_by_state a ≡ false → IsExact limits S (Delete s n) a
  exact_below a low is = subst (λ (b : Bool). MatchOption (if b then None else Some (fault.LastVersion s n (latest_of S s))) (refuses_by_state a ≡ false) (λ f. a ≡ Refused f)) (sym (is_below n (latest_of S s) low)) is

  last_due : latest_of S s ≤ n → due_refusal limits S (Delete s n) ≡ Some (fault.LastVersion s n (latest_of S s))
  last_due high = ap (λ (b : Bool). if b then None else Some (fault.LastVersion s n (latest_of S s))) (not_below n (latest_of S s) high)

  done_means : n < latest_of S s → MeansLine limits (λ _. []) S (Delete s n) (removed S s n)
  done_means low = record { done = inr (low, refl); exact = exact_below (removed S s n) low refl; refused = tt; limit = tt; damage = tt }

  last_means : latest_of S s ≤ n → MeansLine limits (λ _. []) S (Delete s n) (Refused (fault.LastVersion s n (latest_of S s)))
  last_means high = record {
    done = inl refl;
    exact = subst (λ (o : Option Fault). MatchOption o (refuses_by_state (Refused (fault.LastVersion s n (latest_of S s))) ≡ false) (λ f. Refused (fault.LastVersion s n (latest_of S s)) ≡ Refused f)) (sym (last_due high)) refl;
    refused = refl;
    limit = tt;
    damage = tt;
  }

  last_complete : latest_of S s ≤ n → IsWellAnswered limits (λ _. []) S (Delete s n) (Refused (fault.LastVersion s n (latest_of S s)))
  last_complete high = inr (inl (fault.LastVersion s n (latest_of S s), last_due high, refl))

  failed_means : (m : ℕ) → n < latest_of S s → MeansLine limits (λ _. []) S (Delete s n) (Refused (fault.StoreFault m))
  failed_means m low = record { done = inl refl; exact = exact_below (Refused (fault.StoreFault m)) low refl; refused = refl; limit = tt; damage = tt }

-- why a deletion below the latest is refused
store_fault : (before now latest n : ℕ) (f : Fault) → n < latest → IsDeletionFault before now (latest ≤ n) f → (m : ℕ) × (f ≡ fault.StoreFault m) × (m ≡ now) × Rose before now
store_fault before now latest n (fault.StoreFault m) low h = (m, refl, h.0, h.1)
store_fault before now latest n (fault.LastVersion a b c) low h = absurd (omega (arith, h, low))
store_fault before now latest n fault.Usage low h = absurd h
store_fault before now latest n (fault.NotKept a b c d) low h = absurd h
store_fault before now latest n (fault.ReadFault m) low h = absurd h
store_fault before now latest n (fault.WriteFault m) low h = absurd h
store_fault before now latest n (fault.Damaged k m w) low h = absurd h
store_fault before now latest n fault.Memory low h = absurd h
store_fault before now latest n (fault.TooMany m) low h = absurd h
store_fault before now latest n (fault.PlaceFault m) low h = absurd h
store_fault before now latest n (fault.BadLine m) low h = absurd h
store_fault before now latest n (fault.ScriptTooLong m) low h = absurd h
store_fault before now latest n (fault.Full a b c) low h = absurd h

abbrev fault_or : Fault → Result Answer Fault → Fault
fault_or other (Ok a) = other
fault_or other (Err f) = f

-- ---- the line

module _ (u v : View) (ps : List Pin) (s n : ℕ) (limits : Limits) where
  -- what the line comes to, from this state
  abbrev Goes : View → State → Option Change → Answer → Type 0
  Goes w S other a =
      (next : Option Change) × IsStateWith w ps (after (λ _. []) S (Delete s n) a) next
      × StepsOn limits (λ _. []) S other (Delete s n) a next (IsKnownStray u) (IsKnownStray w) u.told w.told

  goes_from : (S : State) (other : Option Change) (a : Answer) (is : IsStateWith u ps S other) → Goes v is.core.state is.core.other a → Goes v S other a
  goes_from S other a is goes = subst (λ (T : State). Goes v T other a) is.state (subst (λ (o : Option Change). Goes v is.core.state o a) is.change goes)

  module _ (K : Core) (keeps : Keeps u K) (no_job : K.job ≡ None) (pinned : K.pins ≡ ps) (told : IsSome u.told.blobs) (changed : IfSome K.other (λ h. IsValid h.state)) (images : u.pending ≡ pending.Not → LeavesNowIfTold u.told.history (IsNear K.state K.other)) where
    done_goes : (a : Answer) → DeletesThrough s n u v (Ok a) → Goes v K.state K.other a
    done_goes a c = subst (λ (b : Answer). Goes v K.state K.other b) (sym (c.ok K keeps).1) (
      None,
      record { core = after_delete s n v.memo.strays K; keeps = (c.ok K keeps).2; state = refl; change = refl; job = no_job; pins = pinned; told = c.tells told; changed = tt; images = λ e. c.acknowledged K keeps images },
      record {
        means = done_means limits K.state s n (c.ok K keeps).0;
        complete = λ all. inl ((c.ok K keeps).0, refl);
        next_other = inl refl;
        gets = (0, c.gets, refl);
        strays = record { later = c.later; others = v.memo.strays; few = λ below. omega (arith, c.few below, c.later); each = λ q known. inr known };
        crash = λ now. done_bears (λ _. []) K.state K.other (Delete s n) (removed K.state s n) (delete_change s n K.state) u.told.history v.told.history refl (c.any_moment K keeps now) (c.acknowledged K keeps images);
        settles = λ done. near_alone (delete K.state s n) v.told.history (c.acknowledged K keeps images);
        forms = shrunk_forms K.state s n u.told.blobs v.told.blobs keeps.core.state (c.ok K keeps).0 (c.recipes told K keeps);
      },
    )

    last_goes : (f : Fault) → latest_of K.state s ≤ n → DeletesThrough s n u v (Err f) → Goes v K.state K.other (Refused f)
    last_goes f high c = subst (λ (w : View). Goes w K.state K.other (Refused f)) (sym (c.still K keeps high)) (subst (λ (g : Fault). Goes u K.state K.other (Refused g)) (sym (ap (λ (r : Result Answer Fault). fault_or f r) (c.last K keeps high))) (
      K.other,
      record { core = K; keeps = keeps; state = refl; change = refl; job = no_job; pins = pinned; told = told; changed = changed; images = images },
      unmoved limits (λ _. []) K.state K.other (Delete s n) (fault.LastVersion s n (latest_of K.state s)) (IsKnownStray u) u.told (last_means limits K.state s n high) (last_complete limits K.state s n high) refl,
    ))

    failed_goes : (m : ℕ) → n < latest_of K.state s → DeletesThrough s n u v (Err (fault.StoreFault m)) → Goes v K.state K.other (Refused (fault.StoreFault m))
    failed_goes m low c = ⊎_elim as_before half_done (c.err K keeps)
      where
        stays : (q : Name) → Contains v.memo.strays q → Contains u.memo.strays q
        stays q known = subst (λ (w : Memo). Contains w.strays q) c.memo known

        valid_half : (o : Option Change) → (o ≡ None) ⊎ ((o ≡ Some (delete_change s n K.state)) × IsShelfFault (fault.StoreFault m)) → IfSome o (λ h. IsValid h.state)
        valid_half o (inl none) = subst (λ (p : Option Change). IfSome p (λ h. IsValid h.state)) (sym none) tt
        valid_half o (inr some) = subst (λ (p : Option Change). IfSome p (λ h. IsValid h.state)) (sym some.0) (delete_valid K.state s n keeps.core.state (below_set K.state s n low) low)

        as_before : IsStill u v K → Goes v K.state K.other (Refused (fault.StoreFault m))
        as_before same = (
          K.other,
          record { core = K; keeps = same.keeps; state = refl; change = refl; job = no_job; pins = pinned; told = c.tells told; changed = changed; images = λ e. ends (IsNear K.state K.other) _ _ (same.any_moment (images (c.due e))) },
          record {
            means = failed_means limits K.state s n m low;
            complete = λ all. inr (inr (inr refl));
            next_other = inr (inl (inl refl, refl));
            gets = (0, c.gets, refl);
            strays = record { later = c.later; others = []; few = λ below. omega arith; each = λ q known. inl (stays q known) };
            crash = λ images. still_bears (λ _. []) K.state K.other (Delete s n) (fault.StoreFault m) u.told.history v.told.history (same.any_moment images);
            settles = λ done. cc;
            forms = still_forms K.state u.told.blobs v.told.blobs (c.all_recipes K keeps);
          },
        )

        half_done : IsHalf u v (delete_change s n K.state) None (fault.StoreFault m) K → Goes v K.state K.other (Refused (fault.StoreFault m))
        half_done half = (
          half.other,
          record { core = after_refused half.other None v.memo.strays v.pending K; keeps = half.keeps; state = refl; change = refl; job = refl; pins = pinned; told = c.tells told; changed = valid_half half.other half.half; images = λ e. half.behind (images (c.due e)) },
          record {
            means = failed_means limits K.state s n m low;
            complete = λ all. inr (inr (inr refl));
            next_other = half_next (λ _. []) K.state K.other (Delete s n) (fault.StoreFault m) half.other (delete_change s n K.state) (IsShelfFault (fault.StoreFault m)) half.half refl refl refl;
            gets = (0, c.gets, refl);
            strays = record { later = c.later; others = []; few = λ below. omega arith; each = λ q known. inl (stays q known) };
            crash = λ now. half_bears (λ _. []) K.state K.other (Delete s n) (fault.StoreFault m) half.other u.told.history v.told.history (half.any_moment now) (half.behind now);
            settles = λ done. cc;
            forms = still_forms K.state u.told.blobs v.told.blobs (c.all_recipes K keeps);
          },
        )

    err_goes : (f : Fault) → DeletesThrough s n u v (Err f) → Goes v K.state K.other (Refused f)
    err_goes f c = ⊎_elim below (λ high. last_goes f high c) (below_or_not n (latest_of K.state s))
      where
        below : n < latest_of K.state s → Goes v K.state K.other (Refused f)
        below low =
            let why = store_fault u.told.faults v.told.faults (latest_of K.state s) n f low (c.cause K keeps) in
            subst (λ (g : Fault). Goes v K.state K.other (Refused g)) (sym why.1) (failed_goes why.0 low (subst (λ (g : Fault). DeletesThrough s n u v (Err g)) why.1 c))

-- ---- an answer of its kind, with its cause

kind_done : (limits : Limits) (s n floor freed : ℕ) (a : Answer) → a ≡ Removed s n floor freed → IsTrue (fits limits (Delete s n) a)
kind_done limits s n floor freed a is = subst (λ (b : Answer). IsTrue (fits limits (Delete s n) b)) (sym is) (both (own_number s) (own_number n))

causes_done : (u v : View) (s n floor freed : ℕ) (a : Answer) → a ≡ Removed s n floor freed → u.told.faults ≤ v.told.faults → CausesRise (counts_of_shelf u.told) (counts_of_shelf v.told) (a ∷ [])
causes_done u v s n floor freed a is later = subst (λ (b : Answer). CausesRise (counts_of_shelf u.told) (counts_of_shelf v.told) (b ∷ [])) (sym is) (record { store = later; place = omega arith; read = omega arith; write = omega arith })

kind_err : (limits : Limits) (before now latest s n : ℕ) (f : Fault) → (latest ≤ n → f ≡ fault.LastVersion s n latest) → IsDeletionFault before now (latest ≤ n) f → IsTrue (fits limits (Delete s n) (Refused f))
kind_err limits before now latest s n f last h = ⊎_elim
    (λ low. let why = store_fault before now latest n f low h in subst (λ (g : Fault). IsTrue (fits limits (Delete s n) (Refused g))) (sym why.1) refl)
    (λ high. subst (λ (g : Fault). IsTrue (fits limits (Delete s n) (Refused g))) (sym (last high)) (both (own_number s) (own_number n)))
    (below_or_not n latest)

causes_err : (u v : View) (latest s n : ℕ) (f : Fault) → (latest ≤ n → f ≡ fault.LastVersion s n latest) → u.told.faults ≤ v.told.faults → IsDeletionFault u.told.faults v.told.faults (latest ≤ n) f
    → CausesRise (counts_of_shelf u.told) (counts_of_shelf v.told) (Refused f ∷ [])
causes_err u v latest s n f last later h = ⊎_elim below above (below_or_not n latest)
  where
    Rises : Fault → Type 0
    Rises g = CausesRise (counts_of_shelf u.told) (counts_of_shelf v.told) (Refused g ∷ [])

    below : n < latest → Rises f
    below low =
        let why = store_fault u.told.faults v.told.faults latest n f low h in
        subst (λ (g : Fault). Rises g) (sym why.1) (record { store = (subst (λ (k : ℕ). Rose u.told.faults k) (sym why.2) why.3, omega (arith, why.2)); place = omega arith; read = omega arith; write = omega arith })

    above : latest ≤ n → Rises f
    above high = subst (λ (g : Fault). Rises g) (sym (last high)) (record { store = later; place = omega arith; read = omega arith; write = omega arith })

-- ---- the whole

pub deletes : (u v : View) (s n : ℕ) (result : Result Answer Fault) → HasCore u → DeletesThrough s n u v result → (ps : List Pin) → DeletesLine (IsStateWith u ps) (IsStateWith v ps) (IsKnownStray u) (IsKnownStray v) s n u.told v.told result
deletes u v s n (Ok a) some c ps =
    let K : Core = some.0 in
    let is = (c.ok K some.1).1 in
    record {
      done = ap (λ (b : Answer). is_refused b) is;
      kind = λ limits. kind_done limits s n _ _ a is;
      causes = causes_done u v s n _ _ a is c.later;
      steps = λ S other limits here. goes_from u v ps s n limits S other a here (done_goes u v ps s n limits here.core here.keeps here.job here.pins here.told (changed_of u S other here) (images_of u S other here) a c);
    }
deletes u v s n (Err f) some c ps =
    let K : Core = some.0 in
    let last : latest_of K.state s ≤ n → f ≡ fault.LastVersion s n (latest_of K.state s) = λ high. ap (λ (r : Result Answer Fault). fault_or f r) (c.last K some.1 high) in
    record {
      done = tt;
      kind = λ limits. kind_err limits u.told.faults v.told.faults (latest_of K.state s) s n f last (c.cause K some.1);
      causes = causes_err u v (latest_of K.state s) s n f last c.later (c.cause K some.1);
      steps = λ S other limits here. goes_from u v ps s n limits S other (Refused f) here (err_goes u v ps s n limits here.core here.keeps here.job here.pins here.told (changed_of u S other here) (images_of u S other here) f c);
    }

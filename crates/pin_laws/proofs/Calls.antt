-- What a keeper's calls leave of a pin, from what each ensures of the cores.
use Rattle.std.proofs.Common.{◌≡◌, ◌≢◌, ℕ, Bool, true, false, not, List, [], ◌∷◌, ◌++◌, Option, refl, sym, ◌∙◌, subst, arith}
use Rattle.std.specs.Prelude.{Contains, ◌==◌}
use Rattle.std.proofs.lemmas.Bool.Decides.{nat_tests}
use Rattle.std.proofs.lemmas.List.Elements.{Contains-append_left}
use Rattle.vault_types.specs.declared.Name.{Name}
use Rattle.vault_types.specs.declared.Recipe.{Recipe}
use Rattle.vault_types.specs.Events.{Core, Change, Job, Pin, CanCommit, with_pins, after_commit, after_refused, after_release}
use Rattle.vault_types.specs.State.{KeptVersion}
use Rattle.keeper_catalog.specs.View.{View, Keeps}
use Rattle.state_laws.proofs.Members.{filter_contains}
use Rattle.pin_laws.specs.Following.{GoesOnTelling, Follows}

-- nothing, and one after the other

pub still : (v : View) (number : ℕ) → Follows v v number
still v number = record { tells = λ some. some; cores = λ K keeps. record { core = K; keeps = keeps; pinned = λ p is there. there } }

pub further : (u v w : View) (number : ℕ) → Follows u v number → Follows v w number → Follows u w number
further u v w number first second = record {
  tells = λ some. second.tells (first.tells some);
  cores = λ K keeps.
      let a = first.cores K keeps in
      let b = second.cores a.core a.keeps in
      record { core = b.core; keeps = b.keeps; pinned = λ p is there. b.pinned p is (a.pinned p is there) };
}

-- events

module _ (old new : View) (number : ℕ) (tells : GoesOnTelling old new) where
  -- each that leaves the pins
  pub by_event : (event : Core → Core) → ((K : Core) → (event K).pins ≡ K.pins) → ((K : Core) → Keeps old K → Keeps new (event K)) → Follows old new number
  by_event event same keeps = record {
    tells = tells;
    cores = λ K was. record { core = event K; keeps = keeps K was; pinned = λ p is there. subst (λ (ps : List Pin). Contains ps p) (sym (same K)) there };
  }

  -- a call that changes no core: one that was refused, a load, a recipe that was read
  pub by_none : ((K : Core) → Keeps old K → Keeps new K) → Follows old new number
  by_none keeps = by_event (λ K. K) (λ K. refl) keeps

  -- a refused call of which a change may be half done, and which may have ended the job: both depend on the core
  pub by_refused : ((K : Core) → Keeps old K → (other : Option Change) × ((job : Option Job) × Keeps new (after_refused other job new.memo.strays new.pending K))) → Follows old new number
  by_refused keeps = record {
    tells = tells;
    cores = λ K was. let h = keeps K was in record { core = after_refused h.0 h.1.0 new.memo.strays new.pending K; keeps = h.1.1; pinned = λ p is there. there };
  }

  -- a commit, which each core must have that it can be done
  pub by_commit : (recipe : Recipe) (version : Core → Job → KeptVersion) (strays : List Name) → ((K : Core) → Keeps old K → (j : Job) × CanCommit K j recipe)
      → ((K : Core) (j : Job) → Keeps old K → CanCommit K j recipe → Keeps new (after_commit (version K j) j strays K)) → Follows old new number
  by_commit recipe version strays can keeps = record {
    tells = tells;
    cores = λ K was. let c = can K was in record { core = after_commit (version K c.0) c.0 strays K; keeps = keeps K c.0 was c.1; pinned = λ p is there. there };
  }

  -- one pin more
  pub by_pin : ((K : Core) → Keeps old K → (pin : Pin) × Keeps new (with_pins (K.pins ++ pin ∷ []) K.strays K)) → Follows old new number
  by_pin keeps = record {
    tells = tells;
    cores = λ K was. let h = keeps K was in
        record { core = with_pins (K.pins ++ h.0 ∷ []) K.strays K; keeps = h.1; pinned = λ p is there. Contains-append_left K.pins (h.0 ∷ []) p there };
  }

  -- the release of another number
  pub by_release : (gone : ℕ) (strays : List Name) → number ≢ gone → ((K : Core) → Keeps old K → Keeps new (after_release gone strays K)) → Follows old new number
  by_release gone strays apart keeps = record {
    tells = tells;
    cores = λ K was. record { core = after_release gone strays K; keeps = keeps K was; pinned = λ p is there. filter_contains (λ (q : Pin). not (q.number == gone)) K.pins p there (other p is (p.number == gone) refl) };
  }
    where
      other : (p : Pin) → p.number ≡ number → (b : Bool) → (p.number == gone) ≡ b → not b ≡ true
      other p is false e = refl
      other p is true e = absurd (apart (let same : p.number ≡ gone = grind (arith, nat_tests) in sym is ∙ same))

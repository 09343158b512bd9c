-- That a pin stays over each call of a keeper, in the words of the calls' clauses: for what goes on beside a pinned restore.
use Rattle.std.proofs.Common.{◌≡◌, ◌⊎◌, ⊎_elim, ℕ, [], ◌∷◌, ◌++◌, None, Result, Ok, Err, refl}
use Rattle.std.specs.Prelude.{IfOk, IfErr, OnOk, OnErr}
use Rattle.vault_types.specs.declared.Answer.{Answer}
use Rattle.vault_types.specs.declared.Fault.{Fault}
use Rattle.vault_types.specs.declared.Recipe.{Recipe}
use Rattle.vault_types.specs.Events.{Core, Change, Job, Pin, CanCommit, with_pins, after_mend, after_begin, after_put, after_commit, after_refused, after_delete, commit_change, delete_change}
use Rattle.vault_types.specs.State.{KeptVersion}
use Rattle.vault_types.specs.Tables.{Container}
use Rattle.keeper_catalog.specs.View.{View, Keeps}
use Rattle.keeper_core.specs.Calls.{IsHalf, IsStill}
use Rattle.keeper_core.specs.Replacing.{IsRefused}
use Rattle.pin_laws.specs.Following.{GoesOnTelling, HasNow, Follows}
use Rattle.pin_laws.proofs.Calls.{by_event, by_none, by_commit, by_pin}

module _ (old new : View) (number : ℕ) (tells : GoesOnTelling old new) where
  -- a refusal of which a change may be half done
  half_now : (h : Change) (f : Fault) (K : Core) → IsHalf old new h None f K → HasNow new number K
  half_now h f K half = record { core = after_refused half.other None new.memo.strays new.pending K; keeps = half.keeps; pinned = λ p is there. there }

  pub mend_follows : {T E : Type 0} (r : Result T E) → OnOk r ((K : Core) → Keeps old K → Keeps new (after_mend K.strays K)) → OnErr r ((K : Core) → Keeps old K → Keeps new K) → Follows old new number
  mend_follows (Ok x) ok err = by_event old new number tells (λ K. after_mend K.strays K) (λ K. refl) ok
  mend_follows (Err f) ok err = by_none old new number tells err

  pub begin_follows : {T E : Type 0} (P : T → Core → Type 0) (set : ℕ) (r : Result T E) → IfOk r (λ b. (K : Core) → Keeps old K → Keeps new (after_begin set K.strays K) × P b K)
      → OnErr r (((K : Core) → Keeps old K → Keeps new K) × (new.job ≡ None)) → Follows old new number
  begin_follows P set (Ok b) ok err = by_event old new number tells (λ K. after_begin set K.strays K) (λ K. refl) (λ K keeps. (ok K keeps).0)
  begin_follows P set (Err f) ok err = by_none old new number tells err.0

  pub put_follows : {T E : Type 0} (c : Container) (r : Result T E) → OnOk r ((K : Core) → Keeps old K → Keeps new (after_put c new.memo.strays K))
      → OnErr r ((K : Core) → Keeps old K → Keeps new (after_refused K.other K.job new.memo.strays new.pending K)) → Follows old new number
  put_follows c (Ok x) ok err = by_event old new number tells (λ K. after_put c new.memo.strays K) (λ K. refl) ok
  put_follows c (Err f) ok err = by_event old new number tells (λ K. after_refused K.other K.job new.memo.strays new.pending K) (λ K. refl) err

  -- of a commit each core that is kept must have that it can be done
  pub commit_follows : {T : Type 0} (version : Core → Job → KeptVersion) (recipe : Recipe) (r : Result T Fault) → ((K : Core) → Keeps old K → (j : Job) × CanCommit K j recipe)
      → OnOk r ((K : Core) (j : Job) → Keeps old K → CanCommit K j recipe → Keeps new (after_commit (version K j) j new.memo.strays K))
      → IfErr r (λ f. (K : Core) (j : Job) → Keeps old K → CanCommit K j recipe → IsHalf old new (commit_change (version K j) j recipe K.state) None f K) → Follows old new number
  commit_follows version recipe (Ok x) can ok err = by_commit old new number tells recipe version new.memo.strays can ok
  commit_follows version recipe (Err f) can ok err = record { tells = tells; cores = λ K keeps. let c = can K keeps in half_now (commit_change (version K c.0) c.0 recipe K.state) f K (err K c.0 keeps c.1) }

  pub delete_follows : (A : Core → Answer → Type 0) (B : Core → Answer → Type 0) (set through : ℕ) (r : Result Answer Fault)
      → IfOk r (λ answer. (K : Core) → Keeps old K → A K answer × B K answer × Keeps new (after_delete set through new.memo.strays K))
      → IfErr r (λ f. (K : Core) → Keeps old K → IsStill old new K ⊎ IsHalf old new (delete_change set through K.state) None f K) → Follows old new number
  delete_follows A B set through (Ok a) ok err = by_event old new number tells (λ K. after_delete set through new.memo.strays K) (λ K. refl) (λ K keeps. (ok K keeps).2)
  delete_follows A B set through (Err f) ok err = record {
    tells = tells;
    cores = λ K keeps. ⊎_elim
        (λ still. record { core = K; keeps = still.keeps; pinned = λ p is there. there })
        (λ half. half_now (delete_change set through K.state) f K half)
        (err K keeps);
  }

  pub replace_follows : {T E : Type 0} (r : Result T E) → OnOk r ((K : Core) → Keeps old K → Keeps new (after_mend K.strays K)) → OnErr r ((K : Core) → Keeps old K → IsRefused new K) → Follows old new number
  replace_follows (Ok x) ok err = by_event old new number tells (λ K. after_mend K.strays K) (λ K. refl) ok
  replace_follows (Err f) ok err = record {
    tells = tells;
    cores = λ K keeps. let h = err K keeps in record { core = after_refused h.0 K.job K.strays new.pending K; keeps = h.1; pinned = λ p is there. there };
  }

  pub pin_follows : {T E : Type 0} (No : T → Pin → Type 0) (In : Core → Pin → Type 0) (r : Result T E)
      → IfOk r (λ p. (K : Core) → Keeps old K → (pin : Pin) × No p pin × In K pin × Keeps new (with_pins (K.pins ++ pin ∷ []) K.strays K))
      → OnErr r (((K : Core) → Keeps old K → Keeps new K) × (new.pins ≡ old.pins)) → Follows old new number
  pin_follows No In (Ok x) ok err = by_pin old new number tells (λ K keeps. let h = ok K keeps in (h.0, h.3))
  pin_follows No In (Err f) ok err = by_none old new number tells err.0

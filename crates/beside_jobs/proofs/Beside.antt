-- A backup with restores beside it, from its start to its end.
use Rattle.std.proofs.Common.{◌≡◌, ℕ, List, Option, Result, refl, sym, ◌∙◌, ap, subst}
use Rattle.vault_types.specs.declared.Answer.{Answer}
use Rattle.vault_types.specs.declared.Fault.{Fault}
use Rattle.vault_types.specs.declared.JobConfig.{JobConfig}
use Rattle.vault_types.specs.declared.Limits.{Limits}
use Rattle.vault_types.specs.Tables.{Container}
use Rattle.vault_traits.specs.Told.{Files, SourceTold}
use Rattle.keeper_catalog.specs.View.{View, HasCore}
use Rattle.backup_jobs.specs.Backup.{BacksUp}
use Rattle.backup_jobs.specs.Going.{Began, IsUnderway}
use Rattle.pipe_backup.specs.declared.piping.Ended.{Ended}
use Rattle.pipe_backup.specs.Loading.{IsLoaded, moved}
use Rattle.pipe_backup.specs.Piping.{PipingView, IsPiping, HasStartedPiping, HasCome}
use Rattle.pipe_backup.proofs.Moved.{piping_moved, piping_underway}
use Rattle.beside_steps.specs.Holding.{BesideView, Holds}
use Rattle.beside_jobs.specs.Beside.{Reached, RunsThere, IsBeside, HasBackedUp}
use Rattle.beside_jobs.proofs.Fed.{core_counted}

module _ {I : Type 0} (r : Reached) (first : Began) (told : I → SourceTold) where
  -- what a turn of a restore asks
  pub feeds : (es : List BesideView) (now : View) (p : PipingView I) → IsBeside r first es (λ b. IsPiping b told now p)
      → (b : Began) × (containers : List Container) × (files : Option Files) × IsUnderway b now containers × Holds b.keeper files es
  feeds es now p h = let u = piping_underway h.began told now p h.so in (h.began, u.0, r.places.files, u.1, h.restores.holds)

  -- a restore was fed
  pub beside_on : (es ds : List BesideView) (now next : View) (p : PipingView I) → IsLoaded now next
      → ((b : Began) (containers : List Container) (r : Reached) → IsUnderway b now containers → RunsThere r es b.keeper → RunsThere r ds (moved b next).keeper)
      → IsBeside r first es (λ b. IsPiping b told now p) → IsBeside r first ds (λ b. IsPiping b told next p)
  beside_on es ds now next p loaded on h =
      let u = piping_underway h.began told now p h.so in
      record {
        began = moved h.began next;
        same = ap (λ (b : Began). record b { keeper = (moved h.began next).keeper }) h.same;
        core = core_counted h.began.keeper next h.core;
        so = piping_moved h.began now next loaded told p h.so;
        restores = on h.began u.0 r u.1 h.restores;
      }

-- so is what a step leaves of it
pub beside_so : (r : Reached) (first : Began) (es : List BesideView) (So Then : Began → Type 0) → ((b : Began) → So b → Then b) → IsBeside r first es So → IsBeside r first es Then
beside_so r first es So Then step h = record { began = h.began; same = h.same; core = h.core; so = step h.began h.so; restores = h.restores }

-- it starts
pub starts_beside : {I : Type 0} (r : Reached) (told : I → SourceTold) (s : ℕ) (config : JobConfig) (limits : Limits) (v now : View) (from : SourceTold) (p : PipingView I) (es : List BesideView) → HasCore v → RunsThere r es v
    → (h : HasStartedPiping told s config limits v now from p) → IsBeside r h.began es (λ b. IsPiping b told now p)
starts_beside r told s config limits v now from p es core runs h = record {
  began = h.began;
  same = refl;
  core = subst HasCore (sym h.keeper_is) core;
  so = h.piping;
  restores = subst (λ (w : View). RunsThere r es w) (sym h.keeper_is) runs;
}

-- it ends
pub ends_beside : {I : Type 0} (r : Reached) (told : I → SourceTold) (s : ℕ) (config : JobConfig) (limits : Limits) (v begun before now : View) (from to : SourceTold) (p q : PipingView I) (e : Ended) (es : List BesideView) (result : Result Answer Fault)
    → (h : HasStartedPiping told s config limits v begun from p)
    → ((b : Began) → HasCome b told before q e → BacksUp b.set b.config b.limits b.keeper now b.source to result)
    → IsBeside r h.began es (λ b. HasCome b told before q e) → HasBackedUp r es s config limits now from to result
ends_beside r told s config limits v begun before now from to p q e es result h ends k =
    let b = k.began in
    let set : b.set ≡ s = ap (λ (x : Began). x.set) k.same ∙ h.set_is in
    let settings : b.config ≡ config = ap (λ (x : Began). x.config) k.same ∙ h.config_is in
    let limited : b.limits ≡ limits = ap (λ (x : Began). x.limits) k.same ∙ h.limits_are in
    let source : b.source ≡ from = ap (λ (x : Began). x.source) k.same ∙ h.source_is in
    record {
      behind = b.keeper;
      core = k.core;
      backs_up =
          subst (λ (n : ℕ). BacksUp n config limits b.keeper now from to result) set
          (subst (λ (c : JobConfig). BacksUp b.set c limits b.keeper now from to result) settings
          (subst (λ (l : Limits). BacksUp b.set b.config l b.keeper now from to result) limited
          (subst (λ (t : SourceTold). BacksUp b.set b.config b.limits b.keeper now t to result) source (ends b k.so))));
      restores = k.restores;
    }

-- The record of a backup.
use Rattle.std.proofs.Common.{◌≡◌, ◌⊎◌, inl, inr, ⊎_elim, ℕ, ◌+◌, ◌<◌, ◌≤◌, ◌^◌, ◌||◌, Bool, true, false, List, [], ◌∷◌, map, Option, Some, None, refl, sym, ◌∙◌, ap, subst, arith}
use Rattle.std.specs.Prelude.{Result, Ok, Err, IsErrAnd, IsSome, IsSomeAnd, IfSome, Contains, option_map, fold, max, nat_lt, nat_le, ◌++◌}
use Rattle.std.proofs.lemmas.List.Elements.{Contains-push_cases}
use Rattle.std.proofs.lemmas.Bool.Decides.{nat_tests}
use Rattle.vault_types.specs.declared.Limits.{Limits}
use Rattle.vault_types.specs.declared.Answer.{Answer}
use Rattle.vault_types.specs.declared.Fault.{Fault}
use Rattle.vault_types.specs.declared.Fault.TheVariants as fault
use Rattle.vault_types.specs.declared.JobConfig.{JobConfig}
use Rattle.vault_types.specs.declared.Name.{Name}
use Rattle.vault_types.specs.declared.Pending.{Pending}
use Rattle.vault_types.specs.declared.Pending.TheVariants as pending
use Rattle.vault_types.specs.declared.Recipe.{Recipe}
use Rattle.vault_types.specs.Names.{fp}
use Rattle.vault_types.specs.Blobs.{recipe_bytes}
use Rattle.vault_types.specs.Tables.{Container}
use Rattle.vault_types.specs.State.{State, IsValid, is_full, latest_of, next_of, next_in}
use Rattle.vault_types.specs.Backup.{backup, after_filling, version_from}
use Rattle.vault_types.specs.Shelf.{Blobs, recipe_name, Stands, Has}
use Rattle.vault_types.specs.Events.{Core, Change, Job, IsNear, IsCore, IsChange, CanCommit, after_commit, after_refused, after_abort, after_begin, commit_change, committed}
use Rattle.vault_traits.specs.Told.{ShelfTold, SourceTold}
use Rattle.vault_traits.specs.Crash.{LeavesNowIfTold, LeavesOnlyIfTold}
use Rattle.vault_traits.proofs.Moments.{then, ends, more, more_now, stays}
use Rattle.vault_traits.specs.Causes.{IsCause, IsUndamaged}
use Rattle.commit_laws.specs.Laws.{AreStraysLeft}
use Rattle.commit_laws.proofs.Committing.{commit_core}
use Rattle.vault_types.specs.RecipeForms.{KeepsRecipes}
use Rattle.keeper_catalog.specs.declared.JobInfo.{JobInfo}
use Rattle.keeper_catalog.specs.View.{View, Keeps, HasCore, job_info}
use Rattle.keeper_jobs.specs.Jobs.{version_by}
use Rattle.keeper_core.specs.declared.keeper.Begun.{Begun}
use Rattle.keeper_core.specs.Calls.{IsBegun, IsHalf, IsShelfFault}
use Rattle.backup_jobs.proofs.Recipes.{second_there}
use Rattle.backup_jobs.specs.Backup.{IsBackupFault, IsJobName, IsBackupRefused, MayBeStray, BacksUp, after_backup, full_fault}
use Rattle.backup_jobs.specs.declared.opening.Opened.{Opened}
use Rattle.backup_jobs.specs.Going.{AreNamed, Began, IsBegunAt, IsUnderway, IsStopped, HasConcluded, IsOpened, began_with, job_core, job_with, made}
use Rattle.backup_jobs.proofs.Jobs.{near_any, put_cause}
use Rattle.backup_jobs.proofs.Causes.{gives_none, put_is_cause}
use Rattle.backup_jobs.proofs.Concluding.{made_is}

-- the state after a commit of the definition's version is that after the backup
commit_is : (b : Began) (K : Core) (read : List ℕ) → IsBegunAt b K.state → committed (version_from K.state (made b read) (fp read) b.config) (job_with b.set (made b read).containers) K.state ≡ backup K.state b.set read b.config
commit_is b K read of = ap (λ f. after_filling K.state b.set f (fp read) b.config) (sym (made_is b K.state read of))

-- an error that came back

pub err_again : (P : Result Answer Fault → Type 0) (f : Fault) → P (Err f) → (r : Result Answer Fault) → IsErrAnd r (λ e. e ≡ f) → P r
err_again P f h (Ok a) e = absurd e
err_again P f h (Err g) e = subst (λ (k : Fault). P (Err k)) (sym e) h

-- a keeper without a job keeps the core as a refusal leaves it

no_job : {X Y : Type 0} (f : X → Y) (o : Option X) → option_map f o ≡ None → o ≡ None
no_job f None e = refl
no_job {X} {Y} f (Some x) e = let clash : ◌≡◌ {A = Option Y} (Some (f x)) None = e in cc

idle_keeps : (v : View) (K : Core) → Keeps v K → v.job ≡ None → Keeps v (after_refused K.other None v.memo.strays v.pending K)
idle_keeps v K kept idle =
    subst (λ (j : Option Job). Keeps v (after_refused K.other j v.memo.strays v.pending K)) (no_job (job_info K.state) K.job (sym kept.job ∙ idle))
    (subst (λ (l : List Name). Keeps v (after_refused K.other K.job l v.pending K)) (sym kept.memo.strays)
    (subst (λ (p : Pending). Keeps v (after_refused K.other K.job K.strays p K)) (sym kept.pending) kept))

-- a set is full or not

never_full : (b : Bool) → b ≡ false → b ≡ true → ⊥
never_full b roomy full = let clash : false ≡ true = sym roomy ∙ full in cc

-- a set that is full

pub full_backs_up : (s : ℕ) (config : JobConfig) (limits : Limits) (v : View) (from : SourceTold) (latest next : ℕ) → v.job ≡ None
    → ((K : Core) → Keeps v K → is_full K.state s limits ≡ true) → ((K : Core) → Keeps v K → latest ≡ latest_of K.state s) → ((K : Core) → Keeps v K → next ≡ next_of K.state)
    → BacksUp s config limits v v from from (Err (fault.Full s latest next))
full_backs_up s config limits v from latest next idle full latest_is next_is = record {
  read = [];
  given = gives_none from.left;
  within = omega arith;
  to_the_end = tt;
  few = tt;
  full = λ K kept is. (ap (λ f. Err f) (same K kept), refl, refl);
  answer = tt;
  causes = λ K kept. inl (full K kept, same K kept);
  done = tt;
  refused = λ K kept. record {
    other = K.other;
    keeps = idle_keeps v K kept idle;
    half = inl (refl, refl);
    strays = λ n among. inl among;
    any_moment = λ images. stays (λ c. IsNear K.state K.other c ⊎ IsNear K.state K.other c) v.told.history v.told.history refl
        (more_now (IsNear K.state K.other) (λ c. IsNear K.state K.other c ⊎ IsNear K.state K.other c) (λ c near. inl near) v.told.history images);
    behind = λ images. images;
    settled = λ images e. images e;
    changed = λ valid. valid;
  };
  idle = idle;
  pins = refl;
  strays = tt;
  tells = λ told. told;
  recipes = λ K kept t n k below is. refl;
  second = tt;
  gets = refl;
  store_later = omega arith;
  source_later = omega arith;
  crash = λ K kept images. stays (λ c. IsNear K.state K.other c ⊎ Stands c (backup K.state s [] config)) v.told.history v.told.history refl
      (more_now (IsNear K.state K.other) (λ c. IsNear K.state K.other c ⊎ Stands c (backup K.state s [] config)) (λ c near. inl near) v.told.history images);
  crash_after = tt;
}
  where
    same : (K : Core) → Keeps v K → fault.Full s latest next ≡ full_fault s K.state
    same K kept = let one = latest_is K kept in let two = next_is K kept in ap (λ l. fault.Full s l next) one ∙ ap (λ n. fault.Full s (latest_of K.state s) n) two

-- a job that could not begin

start_of : ℕ → JobConfig → Limits → View → SourceTold → Began
start_of s config limits v from = record { set = s; version = 0; config = config; limits = limits; first = 0; sparse = []; index = []; keeper = v; source = from }

begin_cause : (s : ℕ) (config : JobConfig) (limits : Limits) (v w : View) (from : SourceTold) (f : Fault) → IsCause v.told.faults w.told.faults IsUndamaged f → IsBackupFault config limits v.told.faults w.told.faults from from [] f
unfolding start_of
begin_cause s config limits v w from f cause = put_is_cause (start_of s config limits v from) w from [] f (put_cause v.told.faults v.told.faults w.told.faults (omega arith) f cause)

module _ (s : ℕ) (config : JobConfig) (limits : Limits) (v w : View) (from : SourceTold) (roomy : (K : Core) → Keeps v K → is_full K.state s limits ≡ false) where
  pub begin_backs_up : (f : Fault) → ((K : Core) → Keeps v K → Keeps w K) → w.job ≡ None → IsCause v.told.faults w.told.faults IsUndamaged f → v.told.faults ≤ w.told.faults → w.told.gets ≡ v.told.gets
      → w.pins ≡ v.pins → (IsSome v.told.blobs → IsSome w.told.blobs) → ((K : Core) → Keeps v K → KeepsRecipes K.state v.told.blobs w.told.blobs)
      → ((K : Core) → Keeps v K → LeavesNowIfTold v.told.history (IsNear K.state K.other) → LeavesOnlyIfTold v.told.history w.told.history (IsNear K.state K.other))
      → (r : Result Answer Fault) → IsErrAnd r (λ e. e ≡ f) → BacksUp s config limits v w from from r
  begin_backs_up f keeps idle cause later gets pins tells recipes moment = err_again (BacksUp s config limits v w from from) f (record {
    read = [];
    given = gives_none from.left;
    within = omega arith;
    to_the_end = tt;
    few = tt;
    full = λ K kept is. absurd (never_full _ (roomy K kept) is);
    answer = tt;
    causes = λ K kept. inr (begin_cause s config limits v w from f cause);
    done = tt;
    refused = λ K kept. record {
      other = K.other;
      keeps = idle_keeps w K (keeps K kept) idle;
      half = inl (refl, refl);
      strays = λ n among. inl (subst (λ (l : List Name). Contains l n) ((keeps K kept).memo.strays ∙ sym kept.memo.strays) among);
      any_moment = λ images. more (IsNear K.state K.other) (λ c. IsNear K.state K.other c ⊎ IsNear K.state K.other c) (λ c near. inl near) v.told.history w.told.history (moment K kept images);
      behind = λ images. ends (IsNear K.state K.other) v.told.history w.told.history (moment K kept images);
      settled = λ images e. ends (IsNear K.state K.other) v.told.history w.told.history (moment K kept (images (kept.pending ∙ sym (keeps K kept).pending ∙ e)));
      changed = λ valid. valid;
    };
    idle = idle;
    pins = pins;
    strays = tt;
    tells = tells;
    recipes = recipes;
    second = tt;
    gets = gets;
    store_later = later;
    source_later = omega arith;
    crash = λ K kept images. more (IsNear K.state K.other) (λ c. IsNear K.state K.other c ⊎ Stands c (backup K.state s [] config)) (λ c near. inl near) v.told.history w.told.history (moment K kept images);
    crash_after = tt;
  })

-- a job that began

abbrev pub opened_by : ℕ → JobConfig → Begun → Opened
opened_by s config begun = record { job = record { set = s; version = begun.version; first = begun.next; config = config }; sparse = begun.sparse; index = begun.index }

pub told_by : (s : ℕ) (config : JobConfig) (limits : Limits) (v : View) (from : SourceTold) (begun : Begun) (S : State) → IsBegun S s begun → IsBegunAt (began_with s config limits v from (opened_by s config begun)) S
told_by s config limits v from begun S h = record { version = h.version; first = h.next; sparse = h.sparse; index = h.index }

other_none : (K : Core) → IsCore K → K.pending ≡ pending.Not → K.other ≡ None
other_none K core is = step K.other core.other
  where
    step : (o : Option Change) → IfSome o (λ h. (s : ℕ) × (K.pending ≡ pending.FailedFor s) × IsChange K.state s h) → o ≡ None
    step None h = refl
    step (Some x) h = absurd (let clash : pending.FailedFor h.0 ≡ pending.Not = sym h.1 ∙ is in cc)

fold_low : (a : ℕ) (ns : List ℕ) → a ≤ fold max a ns
fold_low a [] = omega arith
fold_low a (n ∷ ns) = let h : max a n ≤ fold max (max a n) ns = fold_low (max a n) ns in omega arith

room_is : (S : State) (s : ℕ) (limits : Limits) → is_full S s limits ≡ false → (latest_of S s < limits.last) × (next_of S + limits.chunks ≤ 2 ^ 63)
room_is S s limits roomy = step (nat_le limits.last (latest_of S s)) (nat_lt (2 ^ 63) (next_of S + limits.chunks)) refl refl roomy
  where
    step : (a b : Bool) → nat_le limits.last (latest_of S s) ≡ a → nat_lt (2 ^ 63) (next_of S + limits.chunks) ≡ b → (a || b) ≡ false → (latest_of S s < limits.last) × (next_of S + limits.chunks ≤ 2 ^ 63)
    step true b e f none = absurd (never_full true none refl)
    step false true e f none = absurd (never_full true none refl)
    step false false e f none = (grind (arith, nat_tests), grind (arith, nat_tests))

module _ (b : Began) (now : View) (core : HasCore b.keeper) (roomy : (K : Core) → Keeps b.keeper K → is_full K.state b.set b.limits ≡ false) (told : (K : Core) → Keeps b.keeper K → IsBegunAt b K.state) where
  room : (b.version ≤ b.limits.last) × (b.first + b.limits.chunks ≤ 2 ^ 63)
  room =
      let K = core.0 in
      let of = told K core.1 in
      let is = room_is K.state b.set b.limits (roomy K core.1) in
      (omega (arith, is.0, of.version), omega (arith, is.1, of.first))

  low : 1 ≤ b.first
  low = let K = core.0 in omega (arith, (told K core.1).first, fold_low 1 (map next_in K.state.datasets))

  module _ (set : b.set < 256) (most : b.limits.chunks ≤ 4194304) (last : b.limits.last ≤ 4294967294) (keeps : (K : Core) → Keeps b.keeper K → Keeps now (after_begin b.set K.strays K)) (lent : now.index ≡ b.index)
      (moment : (K : Core) → Keeps b.keeper K → LeavesNowIfTold b.keeper.told.history (IsNear K.state K.other) → LeavesOnlyIfTold b.keeper.told.history now.told.history (IsNear K.state K.other))
      (mended : (b.keeper.pending ≡ pending.Not → ⊥) → (K : Core) → Keeps b.keeper K → LeavesNowIfTold now.told.history (IsNear K.state None))
      (gets : now.told.gets ≡ b.keeper.told.gets) (later : b.keeper.told.faults ≤ now.told.faults) (pins : now.pins ≡ b.keeper.pins) (tells : IsSome b.keeper.told.blobs → IsSome now.told.blobs)
      (recipes : (K : Core) → Keeps b.keeper K → KeepsRecipes K.state b.keeper.told.blobs now.told.blobs) where
    images : (K : Core) → Keeps b.keeper K → (b.keeper.pending ≡ pending.Not → LeavesNowIfTold b.keeper.told.history (IsNear K.state K.other)) → LeavesNowIfTold now.told.history (IsNear K.state None)
    images K kept before = step b.keeper.pending refl
      where
        step : (p : Pending) → b.keeper.pending ≡ p → LeavesNowIfTold now.told.history (IsNear K.state None)
        step pending.Not e = subst (λ (o : Option Change). LeavesNowIfTold now.told.history (IsNear K.state o)) (other_none K kept.core (sym kept.pending ∙ e))
            (ends (IsNear K.state K.other) b.keeper.told.history now.told.history (moment K kept (before e)))
        step pending.Opened e = mended (λ n. let clash : pending.Opened ≡ pending.Not = sym e ∙ n in cc) K kept
        step (pending.FailedFor m) e = mended (λ n. let clash : pending.FailedFor m ≡ pending.Not = sym e ∙ n in cc) K kept

    as_before : (n : Name) → Contains now.memo.strays n → Contains b.keeper.memo.strays n
    as_before n among = subst (λ (l : List Name). Contains l n) ((keeps core.0 core.1).memo.strays ∙ sym core.1.memo.strays) among

    pub begins : IsUnderway b now []
    begins = record {
      core = core;
      told = told;
      roomy = roomy;
      set = set;
      version = omega (arith, room.0);
      fits = room.1;
      low = low;
      most = most;
      keeps = λ K kept.
          let k = keeps K kept in
          subst (λ (l : List Name). Keeps now (after_refused None (Some (job_with b.set [])) l now.pending K)) (sym k.memo.strays)
          (subst (λ (p : Pending). Keeps now (after_refused None (Some (job_with b.set [])) K.strays p K)) (sym k.pending) k);
      lent = lent;
      pins = pins;
      tells = tells;
      recipes = recipes;
      strays = λ n among. inl (as_before n among);
      later = later;
      gets = gets;
      crash = moment;
      images = images;
    }

    pub waits_not : now.pending ≡ pending.Not
    waits_not = (keeps core.0 core.1).pending

    pub named_as : AreNamed b.keeper now []
    named_as = record { each = λ n among. inl (as_before n among) }

pub opens : (s : ℕ) (config : JobConfig) (limits : Limits) (v now : View) (from : SourceTold) (begun : Begun) → HasCore v → ((K : Core) → Keeps v K → is_full K.state s limits ≡ false) → ((K : Core) → Keeps v K → IsBegun K.state s begun)
    → s < 256 → limits.chunks ≤ 4194304 → limits.last ≤ 4294967294 → ((K : Core) → Keeps v K → Keeps now (after_begin s K.strays K)) → now.index ≡ begun.index
    → ((K : Core) → Keeps v K → LeavesNowIfTold v.told.history (IsNear K.state K.other) → LeavesOnlyIfTold v.told.history now.told.history (IsNear K.state K.other))
    → ((v.pending ≡ pending.Not → ⊥) → (K : Core) → Keeps v K → LeavesNowIfTold now.told.history (IsNear K.state None))
    → now.told.gets ≡ v.told.gets → v.told.faults ≤ now.told.faults → now.pins ≡ v.pins → (IsSome v.told.blobs → IsSome now.told.blobs)
    → ((K : Core) → Keeps v K → KeepsRecipes K.state v.told.blobs now.told.blobs)
    → IsOpened s config limits v now from (opened_by s config begun)
opens s config limits v now from begun core roomy are set most last keeps lent moment mended gets later pins tells recipes =
    let b : Began = began_with s config limits v from (opened_by s config begun) in
    let told : (K : Core) → Keeps v K → IsBegunAt b K.state = λ K kept. told_by s config limits v from begun K.state (are K kept) in
    record {
      job = record { set = refl; version = refl; first = refl; config = refl };
      underway = begins b now core roomy told set most last keeps lent moment mended gets later pins tells recipes;
      waits = waits_not b now core roomy told set most last keeps lent moment mended gets later pins tells recipes;
      named = named_as b now core roomy told set most last keeps lent moment mended gets later pins tells recipes;
    }

-- a job stands while it is under way

pub in_job_of : (b : Began) (now : View) (containers : List Container) → IsUnderway b now containers → IsSome now.job
in_job_of b now containers h = let K = h.core.0 in subst (λ (o : Option JobInfo). IsSome o) (sym (h.keeps K h.core.1).job) refl

module _ (b : Began) where
  -- what is a stray of the job may be one after a refusal
  of_job : (before : View) (containers : List Container) → IsUnderway b before containers → (K : Core) → Keeps b.keeper K → (f : Fault) (n : Name) → Contains before.memo.strays n → MayBeStray b.set b.limits b.keeper K f n
  of_job before containers h K kept f n among =
      ⊎_elim (λ old. inl old) (λ put. inr (inl (subst (λ (first : ℕ). IsJobName first b.limits.chunks n) (h.told K kept).first put))) (h.strays n among)

  -- a fault before the commit, and then the job is over
  pub stopped_backs_up : (before now : View) (to : SourceTold) (f : Fault) → IsStopped b before to f → ((K : Core) → Keeps before K → Keeps now (after_abort K)) → now.told ≡ before.told → now.memo.strays ≡ before.memo.strays → now.pending ≡ before.pending → now.pins ≡ before.pins
      → BacksUp b.set b.config b.limits b.keeper now b.source to (Err f)
  stopped_backs_up before now to f h aborts told strays waits pins = record {
    read = h.read;
    given = h.given;
    within = h.within;
    to_the_end = tt;
    few = tt;
    full = λ K kept is. absurd (never_full _ (h.underway.roomy K kept) is);
    answer = tt;
    causes = λ K kept. inr (subst (λ (n : ℕ). IsBackupFault b.config b.limits b.keeper.told.faults n b.source to h.read f) (sym (ap (λ (t : ShelfTold). t.faults) told)) h.cause);
    done = tt;
    refused = λ K kept. record {
      other = None;
      keeps = subst (λ (l : List Name). Keeps now (after_refused None None l now.pending K)) (sym strays)
          (subst (λ (p : Pending). Keeps now (after_refused None None before.memo.strays p K)) (sym waits) (aborts (job_core b.set h.containers before K) (h.underway.keeps K kept)));
      half = inr (inl refl);
      strays = λ n among. of_job before h.containers h.underway K kept f n (subst (λ (l : List Name). Contains l n) strays among);
      any_moment = λ images. more (IsNear K.state K.other) (λ c. IsNear K.state K.other c ⊎ IsNear K.state None c) (λ c near. inl near) b.keeper.told.history now.told.history
          (subst (λ (t : ShelfTold). LeavesOnlyIfTold b.keeper.told.history t.history (IsNear K.state K.other)) (sym told) (h.underway.crash K kept images));
      behind = λ images. subst (λ (t : ShelfTold). LeavesNowIfTold t.history (IsNear K.state None)) (sym told) (h.underway.images K kept (λ e. images));
      settled = λ images e. subst (λ (t : ShelfTold). LeavesNowIfTold t.history (IsNear K.state None)) (sym told) (h.underway.images K kept images);
      changed = λ valid. tt;
    };
    idle = (aborts (job_core b.set h.containers before h.underway.core.0) (h.underway.keeps h.underway.core.0 h.underway.core.1)).job;
    pins = pins ∙ h.underway.pins;
    strays = tt;
    tells = λ some. subst (λ (t : ShelfTold). IsSome t.blobs) (sym told) (h.underway.tells some);
    recipes = λ K kept. subst (λ (t : ShelfTold). KeepsRecipes K.state b.keeper.told.blobs t.blobs) (sym told) (h.underway.recipes K kept);
    second = tt;
    gets = ap (λ (t : ShelfTold). t.gets) told ∙ h.underway.gets;
    store_later = omega (arith, ap (λ (t : ShelfTold). t.faults) told, h.underway.later);
    source_later = h.source_later;
    crash = λ K kept images.
        more (IsNear K.state K.other) (λ c. IsNear K.state K.other c ⊎ Stands c (backup K.state b.set h.read b.config)) (λ c near. inl near) b.keeper.told.history now.told.history
        (subst (λ (t : ShelfTold). LeavesOnlyIfTold b.keeper.told.history t.history (IsNear K.state K.other)) (sym told) (h.underway.crash K kept images));
    crash_after = tt;
  }

  module _ (before now : View) (to : SourceTold) (p : Recipe × Answer) (h : HasConcluded b before to p) where
    abbrev containers : List Container
    containers = (made b h.read).containers

    abbrev core_of : Core → Core
    core_of K = job_core b.set containers before K

    abbrev job : Job
    job = job_with b.set containers

    abbrev change_of : Core → Change
    change_of K = commit_change (version_by (core_of K) job p.0) job p.0 K.state

    state_is : (K : Core) → Keeps b.keeper K → committed (version_by (core_of K) job p.0) job K.state ≡ backup K.state b.set h.read b.config
    state_is K kept = ap (λ k. committed k job K.state) (h.ready.says K kept) ∙ commit_is b K h.read (h.underway.told K kept)

    module _ (moment : (K : Core) (j : Job) → Keeps before K → CanCommit K j p.0 → LeavesNowIfTold before.told.history (IsNear K.state None)
        → LeavesOnlyIfTold before.told.history now.told.history (IsNear K.state (Some (commit_change (version_by K j p.0) j p.0 K.state)))) (gets : now.told.gets ≡ before.told.gets) (later : before.told.faults ≤ now.told.faults) (pins : now.pins ≡ before.pins) (tells : IsSome before.told.blobs → IsSome now.told.blobs)
        (stay : (K : Core) (j : Job) → Keeps before K → CanCommit K j p.0 → KeepsRecipes K.state before.told.blobs now.told.blobs) where
      recipes : (K : Core) → Keeps b.keeper K → KeepsRecipes K.state b.keeper.told.blobs now.told.blobs
      recipes K kept t n k below is = stay (core_of K) job (h.underway.keeps K kept) (h.ready.can K kept) t n k below is ∙ h.underway.recipes K kept t n k below is

      wider : (K : Core) → Keeps b.keeper K → (c : Blobs) → IsNear K.state (Some (change_of K)) c → IsNear K.state K.other c ⊎ Stands c (backup K.state b.set h.read b.config)
      wider K kept c (inl stands) = inl (inl stands)
      wider K kept c (inr has) = inr (subst (Stands c) (state_is K kept) has.other)

      crash : (K : Core) → Keeps b.keeper K → LeavesNowIfTold b.keeper.told.history (IsNear K.state K.other)
          → LeavesOnlyIfTold b.keeper.told.history now.told.history (λ c. IsNear K.state K.other c ⊎ Stands c (backup K.state b.set h.read b.config))
      crash K kept images =
          then (λ c. IsNear K.state K.other c ⊎ Stands c (backup K.state b.set h.read b.config)) b.keeper.told.history before.told.history now.told.history
          (more (IsNear K.state K.other) (λ c. IsNear K.state K.other c ⊎ Stands c (backup K.state b.set h.read b.config)) (λ c near. inl near) b.keeper.told.history before.told.history (h.underway.crash K kept images))
          (more (IsNear K.state (Some (change_of K))) (λ c. IsNear K.state K.other c ⊎ Stands c (backup K.state b.set h.read b.config)) (wider K kept) before.told.history now.told.history
          (moment (core_of K) job (h.underway.keeps K kept) (h.ready.can K kept) (h.underway.images K kept (λ e. images))))

      pub commit_backs_up : ((K : Core) (j : Job) → Keeps before K → CanCommit K j p.0 → Keeps now (after_commit (version_by K j p.0) j now.memo.strays K))
          → ((K : Core) (j : Job) → Keeps before K → CanCommit K j p.0 → LeavesNowIfTold now.told.history (IsNear (committed (version_by K j p.0) j K.state) None))
          → ((K : Core) (j : Job) → Keeps before K → CanCommit K j p.0 → AreStraysLeft before.memo.strays (recipe_name j.set p.0.version) j.containers now.memo.strays)
          → ((K : Core) (j : Job) → Keeps before K → CanCommit K j p.0 → Has now.told.blobs (recipe_name p.0.set p.0.version) (Some (recipe_bytes p.0)))
          → BacksUp b.set b.config b.limits b.keeper now b.source to (Ok p.1)
      commit_backs_up ok acked left spelled = record {
        read = h.read;
        given = h.given;
        within = h.within;
        to_the_end = h.end;
        few = h.few;
        full = λ K kept is. absurd (never_full _ (h.underway.roomy K kept) is);
        answer = λ K kept. h.ready.answer K kept;
        causes = tt;
        done = λ K kept.
            let k = ok (core_of K) job (h.underway.keeps K kept) (h.ready.can K kept) in
            subst (λ (w : Pending). Keeps now (after_backup b.set h.read b.config now.memo.strays w K)) (sym k.pending)
            (subst (λ (T : State). Keeps now (record { state = T; other = None; pins = K.pins; strays = now.memo.strays; job = None; pending = before.pending })) (state_is K kept) k);
        refused = tt;
        idle = (ok (core_of h.underway.core.0) job (h.underway.keeps h.underway.core.0 h.underway.core.1) (h.ready.can h.underway.core.0 h.underway.core.1)).job;
        pins = pins ∙ h.underway.pins;
        strays = λ n among.
            let were = (left (core_of h.underway.core.0) job (h.underway.keeps h.underway.core.0 h.underway.core.1) (h.ready.can h.underway.core.0 h.underway.core.1)).were n among in
            ⊎_elim (λ old. old) (λ put. absurd (were.2 put)) (h.named.each n were.0);
        tells = λ some. tells (h.underway.tells some);
        recipes = recipes;
        second = λ some K k kept is. second_there (core_of K) job p.0 kept.core.state (h.ready.can K kept) h.ready.whole now.told.blobs (spelled (core_of K) job (h.underway.keeps K kept) (h.ready.can K kept)) (tells (h.underway.tells some))
            (backup K.state b.set h.read b.config) (state_is K kept) k is;
        gets = gets ∙ h.underway.gets;
        store_later = omega (arith, h.underway.later);
        source_later = h.source_later;
        crash = crash;
        crash_after = λ K kept.
            more_now (IsNear (committed (version_by (core_of K) job p.0) job K.state) None) (λ c. Stands c (backup K.state b.set h.read b.config)) (only K kept) now.told.history
            (acked (core_of K) job (h.underway.keeps K kept) (h.ready.can K kept));
      }
        where
          only : (K : Core) → Keeps b.keeper K → (c : Blobs) → IsNear (committed (version_by (core_of K) job p.0) job K.state) None c → Stands c (backup K.state b.set h.read b.config)
          only K kept c (inl stands) = subst (Stands c) (state_is K kept) stands
          only K kept c (inr has) = absurd has

      module _ (f : Fault) (cause : IsCause before.told.faults now.told.faults IsUndamaged f)
          (strays : (now.memo.strays ≡ before.memo.strays) ⊎ ((now.memo.strays ≡ before.memo.strays ++ recipe_name p.0.set p.0.version ∷ []) × IsShelfFault f))
          (half : (K : Core) (j : Job) → Keeps before K → CanCommit K j p.0 → IsHalf before now (commit_change (version_by K j p.0) j p.0 K.state) None f K) where
        name_is : (K : Core) → Keeps b.keeper K → recipe_name p.0.set p.0.version ≡ recipe_name b.set (latest_of K.state b.set + 1)
        name_is K kept = let can = h.ready.can K kept in ap (λ s. recipe_name s p.0.version) can.set ∙ ap (λ v. recipe_name b.set v) can.version

        stray_may_be : (K : Core) → Keeps b.keeper K → (n : Name) → Contains now.memo.strays n → MayBeStray b.set b.limits b.keeper K f n
        stray_may_be K kept n among = ⊎_elim
            (λ same. of_job before containers h.underway K kept f n (subst (λ (l : List Name). Contains l n) same among))
            (λ more. ⊎_elim
            (λ old. of_job before containers h.underway K kept f n old)
            (λ is. inr (inr (sym is ∙ name_is K kept, more.1)))
            (Contains-push_cases before.memo.strays (recipe_name p.0.set p.0.version) n (subst (λ (l : List Name). Contains l n) more.0 among)))
            strays

        refused_core : (K : Core) → Keeps b.keeper K → IsBackupRefused b.set b.config b.limits h.read b.keeper now b.source to K f
        refused_core K kept = record {
          other = left.other;
          keeps = left.keeps;
          half = inr (⊎_elim
              (λ none. inl none)
              (λ some. inr (subst (λ (o : Option Change). IsSomeAnd o (λ x. x.state ≡ backup K.state b.set h.read b.config)) (sym some.0) (state_is K kept), h.end, some.1))
              left.half);
          strays = stray_may_be K kept;
          any_moment = λ images.
              then either b.keeper.told.history before.told.history now.told.history
              (more (IsNear K.state K.other) either (λ c near. inl near) b.keeper.told.history before.told.history (h.underway.crash K kept images))
              (more (λ c. IsNear K.state None c ⊎ IsNear K.state left.other c) either (λ c near. ⊎_elim (λ here. inl (near_any K.state K.other c here)) (λ there. inr there) near) before.told.history now.told.history
              (left.any_moment (h.underway.images K kept (λ e. images))));
          behind = λ images. left.behind (h.underway.images K kept (λ e. images));
          settled = λ images e. left.behind (h.underway.images K kept images);
          changed = λ valid. grown left.other left.half;
        }
          where
            left : IsHalf before now (change_of K) None f (core_of K)
            left = half (core_of K) job (h.underway.keeps K kept) (h.ready.can K kept)

            grown : (o : Option Change) → (o ≡ None) ⊎ ((o ≡ Some (change_of K)) × IsShelfFault f) → IfSome o (λ x. IsValid x.state)
            grown o (inl none) = subst (λ (q : Option Change). IfSome q (λ x. IsValid x.state)) (sym none) tt
            grown o (inr some) = subst (λ (q : Option Change). IfSome q (λ x. IsValid x.state)) (sym some.0)
                (commit_core (core_of K) job p.0 (version_by (core_of K) job p.0) (h.underway.keeps K kept).core (h.ready.can K kept) refl []).state

            either : Blobs → Type 0
            either c = IsNear K.state K.other c ⊎ IsNear K.state left.other c

        pub refused_backs_up : (r : Result Answer Fault) → IsErrAnd r (λ e. e ≡ f) → BacksUp b.set b.config b.limits b.keeper now b.source to r
        refused_backs_up = err_again (BacksUp b.set b.config b.limits b.keeper now b.source to) f (record {
          read = h.read;
          given = h.given;
          within = h.within;
          to_the_end = tt;
          few = tt;
          full = λ K kept is. absurd (never_full _ (h.underway.roomy K kept) is);
          answer = tt;
          causes = λ K kept. inr (put_is_cause b now to h.read f (put_cause b.keeper.told.faults before.told.faults now.told.faults h.underway.later f cause));
          done = tt;
          refused = refused_core;
          idle = (refused_core h.underway.core.0 h.underway.core.1).keeps.job;
          pins = pins ∙ h.underway.pins;
          strays = tt;
          tells = λ some. tells (h.underway.tells some);
          recipes = recipes;
          second = tt;
          gets = gets ∙ h.underway.gets;
          store_later = omega (arith, h.underway.later);
          source_later = h.source_later;
          crash = crash;
          crash_after = tt;
        })

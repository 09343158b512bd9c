-- What a job has put.
use Rattle.std.proofs.Common.{◌≡◌, ◌⊎◌, inl, inr, ⊎_elim, ℕ, ◌+◌, ◌<◌, ◌≤◌, List, [], ◌∷◌, ◌++◌, length, Option, Some, None, sym, ◌∙◌, ap, subst, arith, append_assoc, length-append}
use Rattle.std.specs.Prelude.{Contains, IsSome, IsSomeAnd, Result, Ok, Err, OnOk, OnErr, IfErr, IsErrAnd}
use Rattle.std.proofs.lemmas.List.Elements.{Contains-append_left, Contains-append_right, Contains-push, Contains-push_cases}
use Rattle.vault_types.specs.declared.Name.{Name}
use Rattle.vault_types.specs.declared.Pending.{Pending}
use Rattle.vault_types.specs.declared.Fault.{Fault}
use Rattle.vault_types.specs.declared.Fault.TheVariants as fault
use Rattle.vault_types.specs.Tables.{Container}
use Rattle.vault_types.specs.State.{State}
use Rattle.vault_types.specs.Shelf.{Blobs, blob_at, table_name, payload_name, recipe_name}
use Rattle.vault_types.specs.Events.{Core, Change, IsContainerName, IsNear, after_put, after_refused}
use Rattle.vault_traits.specs.Counts.{Rose}
use Rattle.vault_traits.specs.Crash.{LeavesNowIfTold, LeavesOnlyIfTold}
use Rattle.vault_traits.proofs.Moments.{then, ends, more}
use Rattle.vault_traits.specs.Causes.{IsCause, IsUndamaged}
use Rattle.keeper_catalog.specs.declared.JobInfo.{JobInfo}
use Rattle.keeper_catalog.specs.View.{View, Keeps}
use Rattle.keeper_jobs.specs.Jobs.{names_of}
use Rattle.backup_jobs.specs.Backup.{IsJobName}
use Rattle.backup_jobs.specs.Going.{Began, AreNamed, AreNumbered, IsUnderway, IsPutFault, IsPutStop, job_core, job_with}

-- a count that rose from a later one rose
pub rose_from : (old before now : ℕ) → old ≤ before → Rose before now → Rose old now
rose_from old before now later rose = grind arith

pub put_cause : (old before now : ℕ) → old ≤ before → (f : Fault) → IsCause before now IsUndamaged f → IsPutFault old now f
put_cause old before now later fault.Memory h = tt
put_cause old before now later (fault.StoreFault n) h =
    let e : n ≡ now = h.0 in
    let rose : Rose before now = h.1 in (rose_from old before n later (subst (λ k. Rose before k) (sym e) rose), omega (arith, e))
put_cause old before now later fault.Usage h = h
put_cause old before now later (fault.NotKept s v floor latest) h = h
put_cause old before now later (fault.ReadFault n) h = h
put_cause old before now later (fault.WriteFault n) h = h
put_cause old before now later (fault.Damaged kind number why) h = h
put_cause old before now later (fault.TooMany limit) h = h
put_cause old before now later (fault.LastVersion s through latest) h = h
put_cause old before now later (fault.PlaceFault n) h = h
put_cause old before now later (fault.BadLine n) h = h
put_cause old before now later (fault.ScriptTooLong limit) h = h
put_cause old before now later (fault.Full s latest next) h = h

-- blobs that stand for the state are near it, whatever change there may be
pub near_any : (S : State) (other : Option Change) (c : Blobs) → IsNear S None c → IsNear S other c
near_any S other c (inl stands) = inl stands
near_any S other c (inr has) = absurd has

-- the keeper numbers the next container as the job does
pub next_is : (b : Began) (now : View) (containers : List Container) (h : IsUnderway b now containers) (id : ℕ) → id ≡ b.first + length containers → IsSomeAnd now.job (λ j. id ≡ j.next)
next_is b now containers h id is =
    let K = h.core.0 in
    subst (λ (o : Option JobInfo). IsSomeAnd o (λ j. id ≡ j.next)) (sym (h.keeps K h.core.1).job) (is ∙ ap (λ n. n + length containers) (h.told K h.core.1).first)

module _ (b : Began) (old now : View) (containers : List Container) (c : Container) (id : c.table.id ≡ b.first + length containers) (room : length containers < b.limits.chunks) (h : IsUnderway b old containers)
    (moment : (K : Core) → Keeps old K → LeavesNowIfTold old.told.history (IsNear K.state K.other) → LeavesOnlyIfTold old.told.history now.told.history (IsNear K.state K.other))
    (strays : (now.memo.strays ≡ old.memo.strays) ⊎ (now.memo.strays ≡ old.memo.strays ++ names_of c.table.id))
    (lent : now.index ≡ old.index) (pins : now.pins ≡ old.pins) (tells : IsSome old.told.blobs → IsSome now.told.blobs) (gets : now.told.gets ≡ old.told.gets) (later : old.told.faults ≤ now.told.faults)
    (recipes : (s v : ℕ) → blob_at now.told.blobs (recipe_name s v) ≡ blob_at old.told.blobs (recipe_name s v)) where
  more_names : (n : Name) → Contains (old.memo.strays ++ names_of c.table.id) n → Contains b.keeper.memo.strays n ⊎ IsJobName b.first b.limits.chunks n
  more_names n among =
      let two : Contains ((old.memo.strays ++ payload_name c.table.id ∷ []) ++ table_name c.table.id ∷ []) n =
      subst (λ (l : List Name). Contains l n) (sym (append_assoc old.memo.strays (payload_name c.table.id ∷ []) (table_name c.table.id ∷ []))) among in
      ⊎_elim
      (λ before. ⊎_elim (λ first. h.strays n first) (λ same. inr (c.table.id, omega (arith, id), omega (arith, id), inr (sym same))) (Contains-push_cases old.memo.strays (payload_name c.table.id) n before))
      (λ same. inr (c.table.id, omega (arith, id), omega (arith, id), inl (sym same)))
      (Contains-push_cases (old.memo.strays ++ payload_name c.table.id ∷ []) (table_name c.table.id) n two)

  strays_now : (n : Name) → Contains now.memo.strays n → Contains b.keeper.memo.strays n ⊎ IsJobName b.first b.limits.chunks n
  strays_now n among =
      ⊎_elim
      (λ same. h.strays n (subst (λ (l : List Name). Contains l n) same among))
      (λ same. more_names n (subst (λ (l : List Name). Contains l n) same among))
      strays

  under : (all : List Container) → ((K : Core) → Keeps b.keeper K → Keeps now (job_core b.set all now K)) → IsUnderway b now all
  under all keeps = record {
    core = h.core;
    told = h.told;
    roomy = h.roomy;
    set = h.set;
    version = h.version;
    fits = h.fits;
    low = h.low;
    most = h.most;
    keeps = keeps;
    lent = lent ∙ h.lent;
    pins = pins ∙ h.pins;
    tells = λ told. tells (h.tells told);
    recipes = λ K kept s v k below is. recipes s v ∙ h.recipes K kept s v k below is;
    strays = strays_now;
    later = omega (arith, h.later);
    gets = gets ∙ h.gets;
    crash = λ K kept images.
        then (IsNear K.state K.other) b.keeper.told.history old.told.history now.told.history (h.crash K kept images)
        (more (IsNear K.state None) (IsNear K.state K.other) (near_any K.state K.other) old.told.history now.told.history (moment (job_core b.set containers old K) (h.keeps K kept) (h.images K kept (λ e. images))));
    images = λ K kept images. ends (IsNear K.state None) old.told.history now.told.history (moment (job_core b.set containers old K) (h.keeps K kept) (h.images K kept images));
  }

  pub put_ok : {T : Type 0} (r : Result T Fault) → OnOk r ((K : Core) → Keeps old K → Keeps now (after_put c now.memo.strays K)) → OnOk r (IsUnderway b now (containers ++ c ∷ []))
  put_ok (Ok x) ok = under (containers ++ c ∷ []) (λ K kept.
      let k = ok (job_core b.set containers old K) (h.keeps K kept) in
      subst (λ (w : Pending). Keeps now (after_refused None (Some (job_with b.set (containers ++ c ∷ []))) now.memo.strays w K)) (sym k.pending) k)
  put_ok (Err f) ok = tt

  pub put_stop : {T : Type 0} (r : Result T Fault) → OnErr r ((K : Core) → Keeps old K → Keeps now (after_refused K.other K.job now.memo.strays now.pending K)) → IfErr r (IsCause old.told.faults now.told.faults IsUndamaged) → IfErr r (IsPutStop b now)
  put_stop (Ok x) err e = tt
  put_stop (Err f) err e = record {
    containers = containers;
    underway = under containers (λ K kept. err (job_core b.set containers old K) (h.keeps K kept));
    cause = put_cause b.keeper.told.faults old.told.faults now.told.faults h.later f e;
  }

-- a put leaves what is due
pub put_waits : {T : Type 0} (b : Began) (old now : View) (containers : List Container) (c : Container) → IsUnderway b old containers → (r : Result T Fault) → OnOk r ((K : Core) → Keeps old K → Keeps now (after_put c now.memo.strays K))
    → OnOk r (now.pending ≡ old.pending)
put_waits b old now containers c h (Ok x) ok = let K = h.core.0 in (ok (job_core b.set containers old K) (h.keeps K h.core.1)).pending
put_waits b old now containers c h (Err f) ok = tt

-- the strays of a job are names of its containers

one_name : (c : Container) (n : Name) → (n ≡ table_name c.table.id) ⊎ (n ≡ payload_name c.table.id) → IsContainerName (c ∷ []) n
one_name c n is = record { container = c; among = Contains-push [] c; is = is }

name_left : (xs ys : List Container) (n : Name) → IsContainerName xs n → IsContainerName (xs ++ ys) n
name_left xs ys n is = record { container = is.container; among = Contains-append_left xs ys is.container is.among; is = is.is }

name_right : (xs ys : List Container) (n : Name) → IsContainerName ys n → IsContainerName (xs ++ ys) n
name_right xs ys n is = record { container = is.container; among = Contains-append_right xs ys is.container is.among; is = is.is }

pub named_none : (v : View) → AreNamed v v []
named_none v = record { each = λ n among. inl among }

pub named_then : (u v w : View) (xs ys : List Container) → AreNamed u v xs → AreNamed v w ys → AreNamed u w (xs ++ ys)
named_then u v w xs ys one two = record {
  each = λ n among. ⊎_elim (λ before. ⊎_elim (λ old. inl old) (λ is. inr (name_left xs ys n is)) (one.each n before)) (λ is. inr (name_right xs ys n is)) (two.each n among);
}

pub put_named : (old now : View) (c : Container) → (now.memo.strays ≡ old.memo.strays) ⊎ (now.memo.strays ≡ old.memo.strays ++ names_of c.table.id) → AreNamed old now (c ∷ [])
put_named old now c (inl same) = record { each = λ n among. inl (subst (λ (l : List Name). Contains l n) same among) }
put_named old now c (inr more) = record {
  each = λ n among.
      let two : Contains ((old.memo.strays ++ payload_name c.table.id ∷ []) ++ table_name c.table.id ∷ []) n =
      subst (λ (l : List Name). Contains l n) (more ∙ sym (append_assoc old.memo.strays (payload_name c.table.id ∷ []) (table_name c.table.id ∷ []))) among in
      ⊎_elim
      (λ before. ⊎_elim (λ first. inl first) (λ same. inr (one_name c n (inr (sym same)))) (Contains-push_cases old.memo.strays (payload_name c.table.id) n before))
      (λ same. inr (one_name c n (inl (sym same))))
      (Contains-push_cases (old.memo.strays ++ payload_name c.table.id ∷ []) (table_name c.table.id) n two);
}

-- a fact that holds whatever the result is
pub on_ok : {T E : Type 0} (r : Result T E) {P : Type 0} → P → OnOk r P
on_ok (Ok x) h = h
on_ok (Err e) h = tt

-- lists of numbered containers

numbered_front : (cs ds : List Container) (id : ℕ) → AreNumbered id (cs ++ ds) → AreNumbered id cs
numbered_front [] ds id h = tt
numbered_front (c ∷ cs) ds id h = (h.0, numbered_front cs ds (id + 1) h.1)

numbered_next : (cs : List Container) (d : Container) (ds : List Container) (id : ℕ) → AreNumbered id (cs ++ d ∷ ds) → d.table.id ≡ id + length cs
numbered_next [] d ds id h = h.0 ∙ omega arith
numbered_next (c ∷ cs) d ds id h = numbered_next cs d ds (id + 1) h.1 ∙ omega arith

-- what is next in a list that is numbered

pub next_of_all : (first : ℕ) (before yielded rest all : List Container) (d : Container) → all ≡ yielded ++ d ∷ rest → AreNumbered first (before ++ all) → d.table.id ≡ first + length (before ++ yielded)
next_of_all first before yielded rest all d e h =
    numbered_next (before ++ yielded) d rest first (subst (AreNumbered first) (ap (λ xs. before ++ xs) e ∙ sym (append_assoc before yielded (d ∷ rest))) h)

pub room_of_all : (most : ℕ) (before yielded rest all : List Container) (d : Container) → all ≡ yielded ++ d ∷ rest → length (before ++ all) ≤ most → length (before ++ yielded) < most
room_of_all most before yielded rest all d e h =
    let same : length all ≡ length (yielded ++ d ∷ rest) = ap length e in
    omega (arith, same, length-append before all, length-append before yielded, length-append yielded (d ∷ rest))

pub stopped_by_memory : {T : Type 0} (b : Began) (now : View) (containers : List Container) (r : Result T Fault) → IsUnderway b now containers → IsErrAnd r (λ e. e ≡ fault.Memory) → IfErr r (IsPutStop b now)
stopped_by_memory b now containers (Ok x) h e = tt
stopped_by_memory b now containers (Err f) h e = record { containers = containers; underway = h; cause = subst (IsPutFault b.keeper.told.faults now.told.faults) (sym e) tt }

pub stopped_again : {T : Type 0} (P : Fault → Type 0) (r : Result T Fault) (f : Fault) → IsErrAnd r (λ e. e ≡ f) → P f → IfErr r P
stopped_again P (Ok x) f e h = tt
stopped_again P (Err g) f e h = subst P (sym e) h

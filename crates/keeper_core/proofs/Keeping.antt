-- What a keeper keeps over the events of a job.
use Rattle.std.proofs.Common.{◌≡◌, ◌⊎◌, inl, inr, ⊎_elim, ℕ, suc, ◌<◌, ◌+◌, ◌&&◌, length, map, max, List, [], ◌∷◌, ◌++◌, Option, Some, None, refl, sym, ◌∙◌, ap, subst, arith, add-zero, length-append}
use Rattle.std.specs.Prelude.{Result, Ok, Err, OnErr, Contains, IsSome, IfSome, fold, option_map, nat_eq, nat_le, nat_lt, if◌then◌else◌}
use Rattle.vault_types.specs.declared.Fault.{Fault}
use Rattle.vault_types.specs.declared.Fault.TheVariants as fault
use Rattle.vault_types.specs.declared.Fp.{Fp}
use Rattle.vault_types.specs.declared.Pending.{Pending}
use Rattle.vault_types.specs.declared.Pending.TheVariants.{Not, FailedFor}
use Rattle.vault_types.specs.declared.Recipe.{Recipe}
use Rattle.vault_types.specs.Tables.{Container, IsTable}
use Rattle.vault_types.specs.Bytes.{HasPayload}
use Rattle.vault_types.specs.State.{State, Dataset, next_in, next_of, container_in}
use Rattle.vault_types.specs.Shelf.{Blobs, HasContainer}
use Rattle.vault_types.specs.Events.{Core, Change, Job, put_by, put_in, pinned_containers, IsCore, IsChange, CanCommit, Held, committed, commit_change, after_begin, after_mend, after_put, after_abort, after_commit, after_refused}
use Rattle.vault_traits.specs.Told.{ShelfTold}
use Rattle.fp_index.specs.Index.{IsIndexOf}
use Rattle.set_markers.specs.SetMarkers.{Marked}
use Rattle.state_laws.specs.Parts.{HeldIfTold, without_other, with_strays}
use Rattle.state_laws.proofs.Changing.{told_more}
use Rattle.state_laws.proofs.Standing.{held_put}
use Rattle.keeper_catalog.specs.declared.JobInfo.{JobInfo}
use Rattle.keeper_catalog.specs.declared.SetInfo.{SetInfo}
use Rattle.keeper_catalog.specs.Catalog.{Memo, set_info, table_at, AreMarkersOf, IsMemoOf}
use Rattle.keeper_catalog.specs.View.{View, Keeps, job_info}
use Rattle.commit_laws.proofs.Putting.{next_free, put_core, put_tables, abort_tables, abort_core, abort_held}
use Rattle.commit_laws.proofs.Committing.{commit_core}
use Rattle.commit_laws.proofs.Holding.{refused_core, half_core}
use Rattle.keeper_jobs.specs.Jobs.{Sees, Puts, Commits, version_by}
use Rattle.keeper_core.specs.Calls.{due_after}
use Rattle.keeper_jobs.proofs.Seeing.{not_failed, some_same, none_some}

pub on_err : {T E A : Type 0} (r : Result T E) (e : E) → r ≡ Err e → OnErr r A → A
on_err (Ok x) e is h = absurd (let clash : Ok x ≡ Err e = is in cc)
on_err (Err f) e is h = h

pub sees_of : (v : View) (K : Core) → Keeps v K → Sees v.memo.sets v.pending K
sees_of v K keeps = record { core = keeps.core; sets_are = keeps.memo.sets; pending_is = keeps.pending }

pub no_job : (S : State) (o : Option Job) → option_map (job_info S) o ≡ None → o ≡ None
no_job S None e = refl
no_job S (Some j) e = absurd (none_some (job_info S j) (sym e))

pub job_of_info : (S : State) (j : JobInfo) (o : Option Job) → option_map (job_info S) o ≡ Some j → (b : Job) × (o ≡ Some b) × (job_info S b ≡ j)
job_of_info S j None e = absurd (none_some j e)
job_of_info S j (Some b) e = (b, refl, some_same (job_info S b) j e)

pub next_is : (ds : List Dataset) (n : ℕ) → fold max n (map (λ s. s.next) (map set_info ds)) ≡ fold max n (map next_in ds)
next_is [] n = refl
next_is (d ∷ ds) n = next_is ds (max n (next_in d))

length_map : {X Y : Type 0} (f : X → Y) (xs : List X) → length (map f xs) ≡ length xs
length_map f [] = refl
length_map f (x ∷ xs) = ap suc (length_map f xs)

pub sets_count : (v : View) (K : Core) → Keeps v K → length v.memo.sets ≡ 256
sets_count v K keeps = ap length keeps.memo.sets ∙ length_map set_info K.state.datasets ∙ keeps.core.state.sets

-- a mending

pub mended_core : (K : Core) → IsCore K → IsCore (after_mend K.strays K)
mended_core K core = record {
  state = core.state;
  job = core.job;
  tables = core.tables;
  payloads = core.payloads;
  job_set = core.job_set;
  pins = core.pins;
  numbers = core.numbers;
  alone = λ some. refl;
  failed = λ t is. absurd (not_failed t is);
  other = tt;
}

begun_core : (K : Core) (s : ℕ) → s < length K.state.datasets → IsCore K → IsCore (after_begin s K.strays K)
begun_core K s below core = record {
  state = core.state;
  job = refl;
  tables = tt;
  payloads = tt;
  job_set = below;
  pins = core.pins;
  numbers = core.numbers;
  alone = λ some. refl;
  failed = λ t is. absurd (not_failed t is);
  other = tt;
}

module _ (v : View) (K : Core) (keeps : Keeps v K) (told : ShelfTold) (waits : Pending) where
  -- the same core over another shelf's tellings
  pub same_keeps : waits ≡ v.pending → HeldIfTold told.blobs K → Keeps (record { told = told; memo = v.memo; index = v.index; pins = v.pins; job = v.job; pending = waits }) K
  same_keeps over held = record { core = keeps.core; held = held; memo = keeps.memo; index = keeps.index; pins = keeps.pins; alike = keeps.alike; pinned = keeps.pinned; job = keeps.job; pending = over ∙ keeps.pending }

  pub mended : waits ≡ Not → HeldIfTold told.blobs (without_other K) → Keeps (record { told = told; memo = v.memo; index = v.index; pins = v.pins; job = v.job; pending = waits }) (after_mend K.strays K)
  mended over held = record {
    core = mended_core K keeps.core;
    held = told_more (λ m. Held m (without_other K)) (λ m. Held m (after_mend K.strays K)) told.blobs (λ m h. record { near = h.near; containers = h.containers; others = h.others; apart = h.apart }) held;
    memo = record { sets = keeps.memo.sets; tables = keeps.memo.tables; markers = keeps.memo.markers; strays = keeps.memo.strays };
    index = keeps.index;
    pins = keeps.pins;
    alike = keeps.alike;
    pinned = keeps.pinned;
    job = keeps.job;
    pending = over;
  }

  pub begun : (s next : ℕ) (job : Option JobInfo) (index : List (Fp × List ℕ)) → s < 256 → next ≡ fold max 1 (map (λ i. i.next) v.memo.sets) → job ≡ Some (record { set = s; first = next; next = next }) → index ≡ v.index → v.job ≡ None
      → waits ≡ Not → HeldIfTold told.blobs (without_other K) → Keeps (record { told = told; memo = v.memo; index = index; pins = v.pins; job = job; pending = waits }) (after_begin s K.strays K)
  begun s next job index below next_eq job_eq index_eq none over held = record {
    core = begun_core K s (omega (arith, below, keeps.core.state.sets)) keeps.core;
    held = told_more (λ m. Held m (without_other K)) (λ m. Held m (after_begin s K.strays K)) told.blobs
        (λ m h. record {
          near = h.near;
          containers = λ c among. h.containers c (subst (λ (j : Option Job). Contains (pinned_containers K.pins ++ put_by j) c) (sym (no_job K.state K.job (sym keeps.job ∙ none))) among);
          others = h.others;
          apart = h.apart;
        })
        held;
    memo = record {
      sets = keeps.memo.sets;
      tables = λ id. keeps.memo.tables id ∙ ap (λ (j : Option Job). option_map (λ (c : Container). c.table) (container_in (K.state.containers ++ (pinned_containers K.pins ++ put_by j)) id)) (no_job K.state K.job (sym keeps.job ∙ none));
      markers = keeps.memo.markers;
      strays = keeps.memo.strays;
    };
    index = subst (λ (l : List (Fp × List ℕ)). IsIndexOf l (map (λ (c : Container). c.table) K.state.containers)) (sym index_eq) keeps.index;
    pins = keeps.pins;
    alike = keeps.alike;
    pinned = keeps.pinned;
    job = job_eq ∙ (λ i. Some (record { set = s; first = at i; next = (at ∙ sym (add-zero (next_of K.state))) i }));
    pending = over;
  }
    where
      at : next ≡ next_of K.state
      at = next_eq ∙ ap (λ (l : List SetInfo). fold max 1 (map (λ i. i.next) l)) keeps.memo.sets ∙ next_is K.state.datasets 1

-- a put

pub due_cases : (f : Fault) (s : ℕ) (waits : Pending) → (due_after f s waits ≡ waits) ⊎ (due_after f s waits ≡ FailedFor s)
due_cases (fault.StoreFault n) s waits = inr refl
due_cases fault.Usage s waits = inl refl
due_cases (fault.NotKept a b c d) s waits = inl refl
due_cases (fault.ReadFault n) s waits = inl refl
due_cases (fault.WriteFault n) s waits = inl refl
due_cases (fault.Damaged k n w) s waits = inl refl
due_cases fault.Memory s waits = inl refl
due_cases (fault.TooMany n) s waits = inl refl
due_cases (fault.LastVersion a b c) s waits = inl refl
due_cases (fault.PlaceFault n) s waits = inl refl
due_cases (fault.BadLine n) s waits = inl refl
due_cases (fault.ScriptTooLong n) s waits = inl refl
due_cases (fault.Full a b c) s waits = inl refl

told_both : (P Q R : Blobs → Type 0) (b : Option Blobs) → ((m : Blobs) → P m → Q m → R m) → IfSome b P → IfSome b Q → IfSome b R
told_both P Q R None f p q = tt
told_both P Q R (Some m) f p q = f m p q

failed_same : (s t : ℕ) → ◌≡◌ {A = Pending} (FailedFor s) (FailedFor t) → s ≡ t
failed_same s t e = cc

module _ (v : View) (K : Core) (keeps : Keeps v K) (j : JobInfo) (open_job : v.job ≡ Some j) where
  job_is : (b : Job) × (K.job ≡ Some b) × (job_info K.state b ≡ j)
  job_is = job_of_info K.state j K.job (sym keeps.job ∙ open_job)

  pub alone : K.other ≡ None
  unfolding job_is
  alone = keeps.core.alone (subst (λ (o : Option Job). IsSome o) (sym job_is.1) refl)

  next_at : j.next ≡ next_of K.state + length (put_by K.job)
  unfolding job_is
  next_at = ap (λ (i : JobInfo). i.next) (sym job_is.2) ∙ ap (λ (o : Option Job). next_of K.state + length (put_by o)) (sym job_is.1)

  first_at : j.first ≡ next_of K.state
  unfolding job_is
  first_at = ap (λ (i : JobInfo). i.first) (sym job_is.2)

  pub set_below : j.set < length K.state.datasets
  unfolding job_is
  set_below = subst (λ (s : ℕ). s < length K.state.datasets) (ap (λ (i : JobInfo). i.set) job_is.2) (subst (λ (o : Option Job). IfSome o (λ b. b.set < length K.state.datasets)) job_is.1 keeps.core.job_set)

  pub puts_of : (id : ℕ) → id ≡ j.next → Puts K v.memo.strays id
  puts_of id is = record { core = keeps.core; strays_are = sym keeps.memo.strays; alone = alone; next = is ∙ next_at }

  pub table_fresh : (id : ℕ) → id ≡ j.next → table_at v.memo.tables id ≡ None
  table_fresh id is = ap (table_at v.memo.tables) (is ∙ next_at) ∙ next_free K keeps.core v.memo.tables keeps.memo.tables

  pub put_refused : (told : ShelfTold) (n : Memo) (index : List (Fp × List ℕ)) (job : Option JobInfo) (f : Fault) (waits : Pending) → waits ≡ due_after f j.set v.pending → index ≡ v.index → job ≡ v.job
      → n.sets ≡ v.memo.sets → n.markers ≡ v.memo.markers → ((id : ℕ) → table_at n.tables id ≡ table_at v.memo.tables id) → HeldIfTold told.blobs (with_strays n.strays K)
      → Keeps (record { told = told; memo = n; index = index; pins = v.pins; job = job; pending = waits }) (after_refused K.other K.job n.strays waits K)
  put_refused told n index job f waits due same_index same_job sets markers tables held = record {
    core = record {
      state = keeps.core.state;
      job = keeps.core.job;
      tables = keeps.core.tables;
      payloads = keeps.core.payloads;
      job_set = keeps.core.job_set;
      pins = keeps.core.pins;
      numbers = keeps.core.numbers;
      alone = keeps.core.alone;
      failed = λ t is. ⊎_elim
          (λ old. keeps.core.failed t (sym keeps.pending ∙ sym old ∙ sym due ∙ is))
          (λ new. subst (λ (u : ℕ). u < length K.state.datasets) (failed_same j.set t (sym new ∙ sym due ∙ is)) set_below)
          (due_cases f j.set v.pending);
      other = subst (λ (o : Option Change). IfSome o (λ h. (s : ℕ) × (waits ≡ FailedFor s) × IsChange K.state s h)) (sym alone) tt;
    };
    held = told_more (λ m. Held m (with_strays n.strays K)) (λ m. Held m (after_refused K.other K.job n.strays waits K)) told.blobs (λ m h. record { near = h.near; containers = h.containers; others = h.others; apart = h.apart }) held;
    memo = record {
      sets = sets ∙ keeps.memo.sets;
      tables = λ id. tables id ∙ keeps.memo.tables id;
      markers = subst (λ (m : Marked). AreMarkersOf m K.state) (sym markers) keeps.memo.markers;
      strays = refl;
    };
    index = subst (λ (l : List (Fp × List ℕ)). IsIndexOf l (map (λ (c : Container). c.table) K.state.containers)) (sym same_index) keeps.index;
    pins = keeps.pins;
    alike = keeps.alike;
    pinned = keeps.pinned;
    job = same_job ∙ keeps.job;
    pending = refl;
  }

  module _ (c : Container) (fresh : c.table.id ≡ j.next) (rules : IsTable c.table) (payload : HasPayload c) where
    info_at : (b : Job) → job_info K.state b ≡ j → record { set = j.set; first = j.first; next = j.next + 1 } ≡ job_info K.state (put_in c b)
    info_at b info =
        (λ i. record { set = (sym info i).set; first = (sym info i).first; next = (sym info i).next + 1 })
        ∙ (λ i. record { set = b.set; first = next_of K.state; next = at i })
      where
        at : (next_of K.state + length b.containers) + 1 ≡ next_of K.state + length (b.containers ++ c ∷ [])
        at = omega (arith, length-append b.containers (c ∷ []))

    pub put_done : (told : ShelfTold) (n : Memo) (index : List (Fp × List ℕ)) (info : JobInfo) → info ≡ record { set = j.set; first = j.first; next = j.next + 1 } → index ≡ v.index
        → n.sets ≡ v.memo.sets → n.markers ≡ v.memo.markers → ((id : ℕ) → table_at n.tables id ≡ (if nat_eq id c.table.id then Some c.table else table_at v.memo.tables id))
        → HeldIfTold told.blobs (with_strays n.strays K) → IfSome told.blobs (λ m. HasContainer m c)
        → Keeps (record { told = told; memo = n; index = index; pins = v.pins; job = Some info; pending = v.pending }) (after_put c n.strays K)
    unfolding job_is
    put_done told n index info is same_index sets markers tables held there = record {
      core = put_core K job_is.0 c keeps.core job_is.1 (fresh ∙ ap (λ (i : JobInfo). i.next) (sym job_is.2)) n.strays rules payload;
      held = told_both (λ m. Held m (with_strays n.strays K)) (λ m. HasContainer m c) (λ m. Held m (after_put c n.strays K)) told.blobs
          (λ m h has. subst (λ (o : Option Job). Held m (record { state = K.state; other = K.other; pins = K.pins; strays = n.strays; job = o; pending = K.pending }))
          (sym (ap (λ (o : Option Job). option_map (put_in c) o) job_is.1)) (held_put (with_strays n.strays K) job_is.0 c m job_is.1 has h))
          held there;
      memo = record {
        sets = sets ∙ keeps.memo.sets;
        tables = put_tables K job_is.0 c keeps.core job_is.1 (fresh ∙ ap (λ (i : JobInfo). i.next) (sym job_is.2)) v.memo.tables n.tables n.strays tables keeps.memo.tables;
        markers = subst (λ (m : Marked). AreMarkersOf m K.state) (sym markers) keeps.memo.markers;
        strays = refl;
      };
      index = subst (λ (l : List (Fp × List ℕ)). IsIndexOf l (map (λ (d : Container). d.table) K.state.containers)) (sym same_index) keeps.index;
      pins = keeps.pins;
      alike = keeps.alike;
      pinned = keeps.pinned;
      job = ap (λ (i : JobInfo). Some i) (is ∙ info_at job_is.0 job_is.2) ∙ ap (λ (o : Option Job). option_map (job_info K.state) (option_map (put_in c) o)) (sym job_is.1);
      pending = keeps.pending;
    }

  -- the job is over without a commit
  pub aborted : (n : Memo) (index : List (Fp × List ℕ)) → index ≡ v.index → n.sets ≡ v.memo.sets → n.markers ≡ v.memo.markers → n.strays ≡ v.memo.strays
      → ((id : ℕ) → table_at n.tables id ≡ (if nat_le j.first id && nat_lt id j.next then None else table_at v.memo.tables id))
      → Keeps (record { told = v.told; memo = n; index = index; pins = v.pins; job = None; pending = v.pending }) (after_abort K)
  aborted n index same_index sets markers strays gone = record {
    core = abort_core K keeps.core;
    held = told_more (λ m. Held m K) (λ m. Held m (after_abort K)) v.told.blobs (abort_held K) keeps.held;
    memo = record {
      sets = sets ∙ keeps.memo.sets;
      tables = abort_tables K keeps.core v.memo.tables n.tables (λ id. gone id ∙ (λ i. if nat_le (first_at i) id && nat_lt id (next_at i) then None else table_at v.memo.tables id)) keeps.memo.tables;
      markers = subst (λ (m : Marked). AreMarkersOf m K.state) (sym markers) keeps.memo.markers;
      strays = strays ∙ keeps.memo.strays;
    };
    index = subst (λ (l : List (Fp × List ℕ)). IsIndexOf l (map (λ (d : Container). d.table) K.state.containers)) (sym same_index) keeps.index;
    pins = keeps.pins;
    alike = keeps.alike;
    pinned = keeps.pinned;
    job = refl;
    pending = keeps.pending;
  }

  -- a commit

  module _ (job : Job) (r : Recipe) (can : CanCommit K job r) where
    pub commits_of : (index : List (Fp × List ℕ)) → index ≡ v.index → Commits v.memo index j r K job
    commits_of index same = record {
      core = keeps.core;
      memo = keeps.memo;
      index_is = subst (λ (l : List (Fp × List ℕ)). IsIndexOf l (map (λ (d : Container). d.table) K.state.containers)) (sym same) keeps.index;
      info_is = some_same j (job_info K.state job) (sym open_job ∙ keeps.job ∙ ap (option_map (job_info K.state)) can.open_job);
      can = can;
    }

    pub commit_done : (told : ShelfTold) (n : Memo) (index : List (Fp × List ℕ)) → IsMemoOf n (after_commit (version_by K job r) job n.strays K)
        → IsIndexOf index (map (λ c. c.table) (committed (version_by K job r) job K.state).containers) → HeldIfTold told.blobs (after_commit (version_by K job r) job n.strays K)
        → Keeps (record { told = told; memo = n; index = index; pins = v.pins; job = None; pending = v.pending }) (after_commit (version_by K job r) job n.strays K)
    commit_done told n index memo index_is held = record {
      core = commit_core K job r (version_by K job r) keeps.core can refl n.strays;
      held = held;
      memo = memo;
      index = index_is;
      pins = keeps.pins;
      alike = keeps.alike;
      pinned = keeps.pinned;
      job = refl;
      pending = keeps.pending;
    }

    pub commit_still : (told : ShelfTold) (n : Memo) (index : List (Fp × List ℕ)) (waits : Pending) → (waits ≡ v.pending) ⊎ (waits ≡ FailedFor j.set) → ((w : Pending) → IsMemoOf n (after_refused None None n.strays w K))
        → IsIndexOf index (map (λ c. c.table) K.state.containers) → HeldIfTold told.blobs (after_refused None None n.strays waits K)
        → Keeps (record { told = told; memo = n; index = index; pins = v.pins; job = None; pending = waits }) (after_refused None None n.strays waits K)
    commit_still told n index waits why memo index_is held = record {
      core = refused_core K n.strays waits keeps.core (λ t is. ⊎_elim
          (λ old. keeps.core.failed t (sym keeps.pending ∙ sym old ∙ is))
          (λ new. subst (λ (u : ℕ). u < length K.state.datasets) (failed_same j.set t (sym new ∙ is)) set_below)
          why);
      held = held;
      memo = memo waits;
      index = index_is;
      pins = keeps.pins;
      alike = keeps.alike;
      pinned = keeps.pinned;
      job = refl;
      pending = refl;
    }

    pub commit_halved : (told : ShelfTold) (n : Memo) (index : List (Fp × List ℕ)) → ((w : Pending) → IsMemoOf n (after_refused None None n.strays w K))
        → IsIndexOf index (map (λ c. c.table) K.state.containers) → HeldIfTold told.blobs (after_refused (Some (commit_change (version_by K job r) job r K.state)) None n.strays (FailedFor j.set) K)
        → Keeps (record { told = told; memo = n; index = index; pins = v.pins; job = None; pending = FailedFor j.set }) (after_refused (Some (commit_change (version_by K job r) job r K.state)) None n.strays (FailedFor j.set) K)
    commit_halved told n index memo index_is held =
        let at : j.set ≡ job.set = ap (λ (i : JobInfo). i.set) (some_same j (job_info K.state job) (sym open_job ∙ keeps.job ∙ ap (option_map (job_info K.state)) can.open_job)) in
        record {
          core = subst (λ (s : ℕ). IsCore (after_refused (Some (commit_change (version_by K job r) job r K.state)) None n.strays (FailedFor s) K)) (sym at) (half_core K job r (version_by K job r) keeps.core can refl n.strays);
          held = held;
          memo = let m = memo (FailedFor j.set) in record { sets = m.sets; tables = m.tables; markers = m.markers; strays = m.strays };
          index = index_is;
          pins = keeps.pins;
          alike = keeps.alike;
          pinned = keeps.pinned;
          job = refl;
          pending = refl;
        }

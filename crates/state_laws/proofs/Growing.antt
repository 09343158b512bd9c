-- What a commit leaves of a state and its blobs.
use Rattle.std.proofs.Common.{◌≡◌, ◌≢◌, ◌⊎◌, inl, inr, ⊎_elim, ℕ, zero, suc, ◌<◌, ◌≤◌, ◌+◌, ◌-◌, length, Bool, true, false, cond, List, [], ◌∷◌, ◌++◌, Option, Some, None, refl, sym, ◌∙◌, ap, subst, arith, length-append}
use Rattle.std.specs.Prelude.{Contains, IsSome, IfSome, IsSomeAnd, slice_index_or, slice_get, nat_eq, nat_lt, flat_map, IsTrue}
use Rattle.std.specs.List.{AllByRecursion}
use Rattle.std.proofs.lemmas.List.{get_or-set_same, get_or-set_other, length-set}
use Rattle.std.proofs.lemmas.List.Elements.{Contains-append_left, Contains-append_right, Contains-append_cases, Contains-push, Contains-push_cases}
use Rattle.std.proofs.lemmas.Bool.Decides.{nat_tests}
use Rattle.std.specs.FinMap as fin
use Rattle.vault_types.specs.declared.Name.{Name}
use Rattle.vault_types.specs.declared.Row.{Row}
use Rattle.vault_types.specs.declared.Pending.{Pending}
use Rattle.vault_types.specs.Names.{fp}
use Rattle.vault_types.specs.Tables.{Container, has_fp}
use Rattle.vault_types.specs.State.{State, Dataset, KeptVersion, dataset, empty_dataset, latest_in, latest_of, floor_of, version_in, version_of, recipe_of, all_rows, HasFp, IsDataset, IsValid}
use Rattle.vault_types.specs.Bytes.{bytes_of}
use Rattle.vault_types.specs.Blobs.{recipe_bytes_2}
use Rattle.vault_types.specs.Backup.{with_new_version}
use Rattle.vault_types.specs.Shelf.{Blobs, with_blob, recipe_name, floor_name, HasContainer, IsFloorBlob, IsRecipeBlob, Stands}
use Rattle.vault_types.specs.Events.{Core, Job, Change, put_by, pinned_containers, IsNeeded, Held, HasChange, after_commit, after_refused, committed}
use Rattle.vault_types.proofs.GrowLemmas.{version_of-new, version_of-kept, bytes_of-kept}
use Rattle.vault_traits.specs.Shelf.{blobs_with}
use Rattle.state_laws.specs.Parts.{HeldIfTold, CanChange, change}
use Rattle.vault_traits.proofs.Maps.{get_other, get_is, written_or_other}
use Rattle.state_laws.proofs.Standing.{keeps_container, needs_recipe}
use Rattle.state_laws.proofs.Changing.{told_more, told_same, told_with, version_high, latest_low, recipe_same, recipe_no_floor, recipe_no_table, recipe_no_payload, next_unneeded}

floors_pos : (ds : List Dataset) (s : ℕ) → AllByRecursion IsDataset ds → 1 ≤ (slice_index_or ds s empty_dataset).floor
floors_pos [] s h = omega arith
floors_pos (d ∷ ds) zero h = h.0.floor
floors_pos (d ∷ ds) (suc s) h = floors_pos ds s h.1

pub floor_pos : (S : State) (s : ℕ) → IsValid S → 1 ≤ floor_of S s
floor_pos S s valid = floors_pos S.datasets s valid.datasets

all_left : (P : Row → Type 0) (xs ys : List Row) → AllByRecursion P (xs ++ ys) → AllByRecursion P xs
all_left P [] ys all = tt
all_left P (x ∷ xs) ys all = (all.0, all_left P xs ys all.1)

all_right : (P : Row → Type 0) (xs ys : List Row) → AllByRecursion P (xs ++ ys) → AllByRecursion P ys
all_right P [] ys all = all
all_right P (x ∷ xs) ys all = all_right P xs ys all.1

version_rows : (P : Row → Type 0) (vs : List KeptVersion) (i : ℕ) (j : KeptVersion) → AllByRecursion P (flat_map (λ k. k.rows) vs) → slice_get vs i ≡ Some j → AllByRecursion P j.rows
version_rows P [] i j all is = absurd (let clash : ◌≡◌ {A = Option KeptVersion} None (Some j) = is in cc)
version_rows P (v ∷ vs) zero j all is = let same : v ≡ j = cc in subst (λ (w : KeptVersion). AllByRecursion P w.rows) same (all_left P v.rows (flat_map (λ k. k.rows) vs) all)
version_rows P (v ∷ vs) (suc i) j all is = version_rows P vs i j (all_right P v.rows (flat_map (λ k. k.rows) vs) all) is

dataset_rows : (P : Row → Type 0) (ds : List Dataset) (t : ℕ) → AllByRecursion P (all_rows ds) → AllByRecursion P (flat_map (λ k. k.rows) (slice_index_or ds t empty_dataset).versions)
dataset_rows P [] t all = tt
dataset_rows P (d ∷ ds) zero all = all_left P (flat_map (λ k. k.rows) d.versions) (all_rows ds) all
dataset_rows P (d ∷ ds) (suc t) all = dataset_rows P ds t (all_right P (flat_map (λ k. k.rows) d.versions) (all_rows ds) all)

-- what holds of all rows holds of those of a version
pub rows_of : (S : State) (t v : ℕ) (j : KeptVersion) (P : Row → Type 0) → AllByRecursion P (all_rows S.datasets) → version_of S t v ≡ Some j → AllByRecursion P j.rows
rows_of S t v j P all is = by_test (nat_lt v (dataset S t).floor) is
  where
    by_test : (b : Bool) → cond b None (slice_get (dataset S t).versions (v - (dataset S t).floor)) ≡ Some j → AllByRecursion P j.rows
    by_test true e = absurd (let clash : ◌≡◌ {A = Option KeptVersion} None (Some j) = e in cc)
    by_test false e = version_rows P (dataset S t).versions (v - (dataset S t).floor) j (dataset_rows P S.datasets t all) e

pub same_or_not : (t s : ℕ) → (t ≡ s) ⊎ (t ≢ s)
same_or_not t s = by_test (nat_eq t s) refl
  where
    by_test : (b : Bool) → nat_eq t s ≡ b → (t ≡ s) ⊎ (t ≢ s)
    by_test true is = let e : t ≡ s = grind (arith, nat_tests) in inl e
    by_test false is = let e : t ≢ s = grind (arith, nat_tests) in inr e

get_push : (vs : List KeptVersion) (k j : KeptVersion) (i : ℕ) → slice_get (vs ++ k ∷ []) i ≡ Some j → ((i ≡ length vs) × (j ≡ k)) ⊎ (slice_get vs i ≡ Some j)
get_push [] k j zero is = inl (refl, sym (let e : k ≡ j = cc in e))
get_push [] k j (suc i) is = absurd (let e : ◌≡◌ {A = Option KeptVersion} None (Some j) = is in cc)
get_push (v ∷ vs) k j zero is = inr is
get_push (v ∷ vs) k j (suc i) is = ⊎_elim (λ new. inl (ap suc new.0, new.1)) (λ old. inr old) (get_push vs k j i is)

module _ (S : State) (s : ℕ) (k : KeptVersion) (cs : List Container) (valid : IsValid S) (below : s < length S.datasets) where
  abbrev grown : Dataset
  grown = record { floor = (dataset S s).floor; versions = (dataset S s).versions ++ k ∷ [] }

  pub sets_same : length (with_new_version S s k cs).datasets ≡ length S.datasets
  sets_same = length-set S.datasets s grown

  at_set : (t : ℕ) → ((t ≡ s) × (dataset (with_new_version S s k cs) t ≡ grown)) ⊎ ((t ≢ s) × (dataset (with_new_version S s k cs) t ≡ dataset S t))
  at_set t = ⊎_elim
      (λ is. inl (is, ap (λ (u : ℕ). dataset (with_new_version S s k cs) u) is ∙ get_or-set_same S.datasets s grown empty_dataset below))
      (λ other. inr (other, get_or-set_other S.datasets s t grown empty_dataset other))
      (same_or_not t s)

  pub floor_same : (t : ℕ) → floor_of (with_new_version S s k cs) t ≡ floor_of S t
  floor_same t = ⊎_elim
      (λ here. ap (λ (d : Dataset). d.floor) here.1 ∙ ap (λ (u : ℕ). floor_of S u) (sym here.0))
      (λ there. ap (λ (d : Dataset). d.floor) there.1)
      (at_set t)

  latest_grown : latest_in grown ≡ latest_of S s + 1
  latest_grown = let low = floor_pos S s valid in omega (arith, length-append (dataset S s).versions (k ∷ []))

  pub latest_new : latest_of (with_new_version S s k cs) s ≡ latest_of S s + 1
  latest_new = ap latest_in (get_or-set_same S.datasets s grown empty_dataset below) ∙ latest_grown

  pub latest_rises : (t : ℕ) → latest_of S t ≤ latest_of (with_new_version S s k cs) t
  latest_rises t = ⊎_elim
      (λ here. let e : latest_of (with_new_version S s k cs) t ≡ latest_of S s + 1 = ap latest_in here.1 ∙ latest_grown in let f : latest_of S t ≡ latest_of S s = ap (λ (u : ℕ). latest_of S u) here.0 in omega arith)
      (λ there. let e : latest_of (with_new_version S s k cs) t ≡ latest_of S t = ap latest_in there.1 in omega arith)
      (at_set t)

  version_in_push : (v : ℕ) (j : KeptVersion) → version_in grown v ≡ Some j → ((v ≡ latest_of S s + 1) × (j ≡ k)) ⊎ (version_of S s v ≡ Some j)
  version_in_push v j is = by_test (nat_lt v (dataset S s).floor) refl is
    where
      by_test : (b : Bool) → nat_lt v (dataset S s).floor ≡ b → cond b None (slice_get ((dataset S s).versions ++ k ∷ []) (v - (dataset S s).floor)) ≡ Some j → ((v ≡ latest_of S s + 1) × (j ≡ k)) ⊎ (cond (nat_lt v (dataset S s).floor) None (slice_get (dataset S s).versions (v - (dataset S s).floor)) ≡ Some j)
      by_test true t e = absurd (let clash : ◌≡◌ {A = Option KeptVersion} None (Some j) = e in cc)
      by_test false t e =
          let low : (dataset S s).floor ≤ v = grind (arith, nat_tests) in
          let pos = floor_pos S s valid in
          ⊎_elim (λ new. inl ((omega (arith, new.0)), new.1)) (λ old. inr (ap (λ b. cond b None (slice_get (dataset S s).versions (v - (dataset S s).floor))) t ∙ old)) (get_push (dataset S s).versions k j (v - (dataset S s).floor) e)

  -- a version after the commit is the new one, or was there
  pub version_back : (t v : ℕ) (j : KeptVersion) → version_of (with_new_version S s k cs) t v ≡ Some j → ((t ≡ s) × (v ≡ latest_of S s + 1) × (j ≡ k)) ⊎ (version_of S t v ≡ Some j)
  version_back t v j is = ⊎_elim
      (λ here. ⊎_elim
      (λ new. inl (here.0, new.0, new.1))
      (λ old. inr (ap (λ (u : ℕ). version_of S u v) here.0 ∙ old))
      (version_in_push v j (ap (λ (d : Dataset). version_in d v) (sym here.1) ∙ is)))
      (λ there. inr (ap (λ (d : Dataset). version_in d v) (sym there.1) ∙ is))
      (at_set t)

  pub bytes_same : (t v : ℕ) (j : KeptVersion) → version_of S t v ≡ Some j → bytes_of (with_new_version S s k cs) t v ≡ bytes_of S t v
  bytes_same t v j is = bytes_of-kept S s k cs t v j (λ r c. IsTrue (has_fp r.fp c.table)) below is (rows_of S t v j (HasFp S.containers) valid.rows is)

  -- with the recipe, blobs that have the containers stand for the new state
  module _ (m : Blobs) (stands : Stands m S) (has : (c : Container) → Contains cs c → HasContainer m c) (bytes : List ℕ) (spelled : bytes ≡ recipe_bytes_2 k.sum (recipe_of s (latest_of S s + 1) k)) where
    recipe_at : (t v : ℕ) (j : KeptVersion) → t < length S.datasets → version_of (with_new_version S s k cs) t v ≡ Some j → IsRecipeBlob (with_new_version S s k cs) t v j (fin.get (with_blob m (recipe_name s (latest_of S s + 1)) (Some bytes)) (recipe_name t v))
    recipe_at t v j in_range is = ⊎_elim
        (λ new. inl (get_is m (recipe_name s (latest_of S s + 1)) (Some bytes) (recipe_name t v) (λ i. recipe_name (new.0 i) (new.1 i))
        ∙ ap (λ (b : List ℕ). Some b) (spelled ∙ ap (λ (u : ℕ). recipe_bytes_2 k.sum (recipe_of u (latest_of S s + 1) k)) (sym new.0) ∙ ap (λ (w : ℕ). recipe_bytes_2 k.sum (recipe_of t w k)) (sym new.1) ∙ ap (λ (q : KeptVersion). recipe_bytes_2 q.sum (recipe_of t v q)) (sym new.2))))
        (λ old.
        let high = version_high S t v j old in
        let one = latest_low S s valid in
        let two = latest_low S t valid in
        let apart : recipe_name t v ≢ recipe_name s (latest_of S s + 1) = λ same.
        let e = recipe_same t v s (latest_of S s + 1) (omega arith) (omega arith) same in
        let f : v ≤ latest_of S s = subst (λ (u : ℕ). v ≤ latest_of S u) e.0 high in omega (arith, e.1) in
        let was : IsRecipeBlob S t v j (fin.get m (recipe_name t v)) = subst (λ (o : Option KeptVersion). IfSome o (λ j. IsRecipeBlob S t v j (fin.get m (recipe_name t v)))) old (stands.recipes t v in_range) in
        subst (λ (b : Option (List ℕ)). IsRecipeBlob (with_new_version S s k cs) t v j b) (sym (get_other m (recipe_name s (latest_of S s + 1)) (Some bytes) (recipe_name t v) apart))
        (⊎_elim (λ two. inl two) (λ one. inr (one.0, one.1 ∙ ap fp (sym (bytes_same t v j old)))) was))
        (version_back t v j is)

    recipes_at : (t v : ℕ) → t < length S.datasets → (o : Option KeptVersion) → version_of (with_new_version S s k cs) t v ≡ o → IfSome o (λ j. IsRecipeBlob (with_new_version S s k cs) t v j (fin.get (with_blob m (recipe_name s (latest_of S s + 1)) (Some bytes)) (recipe_name t v)))
    recipes_at t v in_range None is = tt
    recipes_at t v in_range (Some j) is = recipe_at t v j in_range is

    pub grown_stands : Stands (with_blob m (recipe_name s (latest_of S s + 1)) (Some bytes)) (with_new_version S s k cs)
    grown_stands = record {
      floors = λ t in_range. subst (λ (b : Option (List ℕ)). IsFloorBlob t (floor_of (with_new_version S s k cs) t) b)
          (sym (get_other m (recipe_name s (latest_of S s + 1)) (Some bytes) (floor_name t) (λ same. recipe_no_floor s (latest_of S s + 1) t (sym same))))
          (subst (λ (f : ℕ). IsFloorBlob t f (fin.get m (floor_name t))) (sym (floor_same t)) (stands.floors t (omega (arith, sets_same))));
      recipes = λ t v in_range. recipes_at t v (omega (arith, sets_same)) (version_of (with_new_version S s k cs) t v) refl;
      containers = λ c among. keeps_container m (recipe_name s (latest_of S s + 1)) (Some bytes) c
          (λ same. recipe_no_table s (latest_of S s + 1) c.table.id (sym same)) (λ same. recipe_no_payload s (latest_of S s + 1) c.table.id (sym same))
          (⊎_elim (stands.containers c) (has c) (Contains-append_cases S.containers cs c among));
      newest = λ t v in_range later last.
          let rises = latest_rises t in
          let one = latest_low S s valid in
          get_other m (recipe_name s (latest_of S s + 1)) (Some bytes) (recipe_name t v) (λ same.
          let e = recipe_same t v s (latest_of S s + 1) (omega arith) (omega arith) same in
          let f : latest_of (with_new_version S s k cs) t ≡ latest_of S s + 1 = ap (λ (u : ℕ). latest_of (with_new_version S s k cs) u) e.0 ∙ latest_new in
          omega (arith, e.1))
          ∙ stands.newest t v (omega (arith, sets_same)) (omega arith) last;
    }

  -- what was needed is needed
  pub grown_needs : (more : List Container) (n : Name) → IsNeeded S more n → IsNeeded (with_new_version S s k cs) more n
  grown_needs more n (inl is) = inl (record {
    container = is.container;
    among = ⊎_elim
        (λ here. Contains-append_left (S.containers ++ cs) more is.container (Contains-append_left S.containers cs is.container here))
        (λ there. Contains-append_right (S.containers ++ cs) more is.container there)
        (Contains-append_cases S.containers more is.container is.among);
    is = is.is;
  })
  grown_needs more n (inr (inl is)) = inr (inl (record { set = is.set; version = is.version; in_range = omega (arith, sets_same, is.in_range); kept = still (version_of S is.set is.version) refl is.kept; is = is.is }))
    where
      still : (o : Option KeptVersion) → version_of S is.set is.version ≡ o → IsSome o → IsSome (version_of (with_new_version S s k cs) is.set is.version)
      still (Some j) e some = subst (λ (o : Option KeptVersion). IsSome o) (sym (version_of-kept S s k cs is.set is.version j below e)) refl
      still None e some = absurd (let f : ◌≡◌ {A = Option KeptVersion} None None = refl in cc)
  grown_needs more n (inr (inr is)) = inr (inr (record { set = is.set; in_range = omega (arith, sets_same, is.in_range); is = is.is }))

  pub grown_needs_new : (more : List Container) → IsNeeded (with_new_version S s k cs) more (recipe_name s (latest_of S s + 1))
  grown_needs_new more = needs_recipe (with_new_version S s k cs) more s (latest_of S s + 1) k (omega (arith, sets_same)) (version_of-new S s k cs below (floor_pos S s valid))

-- a commit

module _ (K : Core) (job : Job) (k : KeptVersion) (strays : List Name) (valid : IsValid K.state) (below : job.set < length K.state.datasets) (open_job : K.job ≡ Some job) (alone : K.other ≡ None) (bytes : List ℕ) (spelled : bytes ≡ recipe_bytes_2 k.sum (recipe_of job.set (latest_of K.state job.set + 1) k)) where
  held_stands : (m : Blobs) → Held m K → Stands m K.state
  held_stands m held = ⊎_elim (λ here. here) (λ none. absurd (subst (λ (o : Option Change). IsSomeAnd o (λ h. HasChange K.state h m)) alone none)) held.near

  held_job : (m : Blobs) → Held m K → (c : Container) → Contains job.containers c → HasContainer m c
  held_job m held c among = held.containers c (Contains-append_right (pinned_containers K.pins) (put_by K.job) c (subst (λ (j : Option Job). Contains (put_by j) c) (sym open_job) among))

  pub commit_stands : (m : Blobs) → Held m K → Stands (with_blob m (recipe_name job.set (latest_of K.state job.set + 1)) (Some bytes)) (committed k job K.state)
  commit_stands m held = grown_stands K.state job.set k job.containers valid below m (held_stands m held) (held_job m held) bytes spelled

  pub commit_held : (m : Blobs) → ((n : Name) → Contains K.strays n → Contains strays n ⊎ IsNeeded (committed k job K.state) (pinned_containers K.pins) n)
      → ((n : Name) → Contains strays n → IsNeeded (committed k job K.state) (pinned_containers K.pins) n → ⊥)
      → Held m K → Held (with_blob m (recipe_name job.set (latest_of K.state job.set + 1)) (Some bytes)) (after_commit k job strays K)
  commit_held m covered apart held = record {
    near = inl (commit_stands m held);
    containers = λ c among. keeps_container m (recipe_name job.set (latest_of K.state job.set + 1)) (Some bytes) c
        (λ same. recipe_no_table job.set (latest_of K.state job.set + 1) c.table.id (sym same)) (λ same. recipe_no_payload job.set (latest_of K.state job.set + 1) c.table.id (sym same))
        (held.containers c (Contains-append_left (pinned_containers K.pins) (put_by K.job) c (pinned_only c among)));
    others = λ q there. ⊎_elim
        (λ (same : q ≡ recipe_name job.set (latest_of K.state job.set + 1)). inl (subst (λ (n : Name). IsNeeded (committed k job K.state) (pinned_containers K.pins) n) (sym same) (grown_needs_new K.state job.set k job.containers valid below (pinned_containers K.pins))))
        (λ kept. ⊎_elim
        (λ needed. inl (grown_needs K.state job.set k job.containers valid below (pinned_containers K.pins) q needed))
        (λ stray. ⊎_elim (λ still. inr still) (λ needed. inl needed) (covered q stray))
        (held.others q (subst (λ (b : Option (List ℕ)). IsSome b) kept there)))
        (written_or_other m (recipe_name job.set (latest_of K.state job.set + 1)) (Some bytes) q);
    apart = apart;
  }
    where
      pinned_only : (c : Container) → Contains (pinned_containers K.pins ++ []) c → Contains (pinned_containers K.pins) c
      pinned_only c among = ⊎_elim (λ here. here) (λ none. absurd (omega (arith, none.1))) (Contains-append_cases (pinned_containers K.pins) [] c among)

  -- what the shelf's commit asks for
  pub can_change : (b : Option Blobs) → HeldIfTold b K → CanChange b K.state (change (recipe_name job.set (latest_of K.state job.set + 1)) bytes (committed k job K.state))
  can_change b held = record {
    stands = told_more (λ m. Held m K) (λ m. Stands m K.state) b held_stands held;
    will_stand = told_more (λ m. Held m K) (λ m. Stands (with_blob m (recipe_name job.set (latest_of K.state job.set + 1)) (Some bytes)) (committed k job K.state)) b commit_stands held;
  }

  -- behind a commit that was done
  pub told_committed : (b after : Option Blobs) → after ≡ blobs_with b (recipe_name job.set (latest_of K.state job.set + 1)) (Some bytes)
      → ((n : Name) → Contains K.strays n → Contains strays n ⊎ IsNeeded (committed k job K.state) (pinned_containers K.pins) n)
      → ((n : Name) → Contains strays n → IsNeeded (committed k job K.state) (pinned_containers K.pins) n → ⊥)
      → HeldIfTold b K → HeldIfTold after (after_commit k job strays K)
  told_committed b after is covered apart held = told_same (λ m. Held m (after_commit k job strays K)) (blobs_with b (recipe_name job.set (latest_of K.state job.set + 1)) (Some bytes)) after is
      (told_with (λ m. Held m K) (λ m. Held m (after_commit k job strays K)) b (recipe_name job.set (latest_of K.state job.set + 1)) (Some bytes) (λ m h. commit_held m covered apart h) held)

  half_pins : (c : Container) → Contains (pinned_containers K.pins ++ []) c → Contains (pinned_containers K.pins ++ put_by K.job) c
  half_pins c among = Contains-append_left (pinned_containers K.pins) (put_by K.job) c (⊎_elim (λ here. here) (λ none. absurd (omega (arith, none.1))) (Contains-append_cases (pinned_containers K.pins) [] c among))

  half_apart : (q : Name) → ((n : Name) → Contains K.strays n → IsNeeded K.state (pinned_containers K.pins) n → ⊥) → Contains (K.strays ++ recipe_name job.set (latest_of K.state job.set + 1) ∷ []) q → IsNeeded K.state (pinned_containers K.pins) q → ⊥
  half_apart q apart stray needed = ⊎_elim (λ old. apart q old needed)
      (λ same. next_unneeded K.state (pinned_containers K.pins) job.set valid (subst (λ (n : Name). IsNeeded K.state (pinned_containers K.pins) n) (sym same) needed))
      (Contains-push_cases K.strays (recipe_name job.set (latest_of K.state job.set + 1)) q stray)

  -- behind a commit that is half done: the recipe's name is a stray
  pub half_same : (waits : Pending) (r : Change) (m : Blobs) → Held m K → Held m (after_refused (Some r) None (K.strays ++ recipe_name job.set (latest_of K.state job.set + 1) ∷ []) waits K)
  half_same waits r m held = record {
    near = inl (held_stands m held);
    containers = λ c among. held.containers c (half_pins c among);
    others = λ q there. ⊎_elim (λ needed. inl needed) (λ stray. inr (Contains-append_left K.strays (recipe_name job.set (latest_of K.state job.set + 1) ∷ []) q stray)) (held.others q there);
    apart = λ q stray needed. half_apart q held.apart stray needed;
  }

  pub half_written : (waits : Pending) (m : Blobs) → Held m K
      → Held (with_blob m (recipe_name job.set (latest_of K.state job.set + 1)) (Some bytes)) (after_refused (Some (change (recipe_name job.set (latest_of K.state job.set + 1)) bytes (committed k job K.state))) None (K.strays ++ recipe_name job.set (latest_of K.state job.set + 1) ∷ []) waits K)
  half_written waits m held = record {
    near = inr (record { before = m; stands = held_stands m held; is = refl; other = commit_stands m held });
    containers = λ c among. keeps_container m (recipe_name job.set (latest_of K.state job.set + 1)) (Some bytes) c
        (λ same. recipe_no_table job.set (latest_of K.state job.set + 1) c.table.id (sym same)) (λ same. recipe_no_payload job.set (latest_of K.state job.set + 1) c.table.id (sym same)) (held.containers c (half_pins c among));
    others = λ q there. ⊎_elim
        (λ (same : q ≡ recipe_name job.set (latest_of K.state job.set + 1)). inr (subst (λ (n : Name). Contains (K.strays ++ recipe_name job.set (latest_of K.state job.set + 1) ∷ []) n) (sym same) (Contains-push K.strays (recipe_name job.set (latest_of K.state job.set + 1)))))
        (λ kept. ⊎_elim (λ needed. inl needed) (λ stray. inr (Contains-append_left K.strays (recipe_name job.set (latest_of K.state job.set + 1) ∷ []) q stray)) (held.others q (subst (λ (b : Option (List ℕ)). IsSome b) kept there)))
        (written_or_other m (recipe_name job.set (latest_of K.state job.set + 1)) (Some bytes) q);
    apart = λ q stray needed. half_apart q held.apart stray needed;
  }

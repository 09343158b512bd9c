-- A deletion keeps a core.
use Rattle.std.proofs.Common.{◌≡◌, ℕ, zero, suc, ◌<◌, ◌≤◌, ◌+◌, ◌-◌, max, length, map, Bool, true, false, cond, List, [], ◌∷◌, ◌++◌, drop, Option, Some, None, refl, sym, ◌∙◌, ap, subst, arith, length-drop}
use Rattle.std.specs.Prelude.{Contains, IfSome, IsSomeAnd, IsTrue, slice_index_or, slice_set, filter, flat_map, fold, ◌==◌, option_map, unwrap_or}
use Rattle.std.specs.List.{AllByRecursion, last_or, range_with_len}
use Rattle.std.proofs.lemmas.Bool.Decides.{nat_tests}
use Rattle.std.proofs.lemmas.List.{set-get_or}
use Rattle.std.specs.Option.{option_map_or}
use Rattle.vault_types.specs.declared.Name.{Name}
use Rattle.vault_types.specs.declared.Row.{Row}
use Rattle.vault_types.specs.declared.Pending.TheVariants.{Not, FailedFor}
use Rattle.vault_types.specs.Lists.{has, EachNext}
use Rattle.vault_types.specs.Tables.{Container, id_of, has_fp, IsTable}
use Rattle.vault_types.specs.State.{State, Dataset, KeptVersion, dataset, empty_dataset, latest_of, latest_version, floor_of, next_of, next_in, all_rows, named, container_in, HasFp, IsDataset, IsValid}
use Rattle.vault_types.specs.Bytes.{HasPayload}
use Rattle.vault_types.specs.Delete.{delete, without_below, state_with}
use Rattle.keeper_catalog.specs.declared.SetInfo.{SetInfo}
use Rattle.keeper_catalog.specs.Catalog.{set_info}
use Rattle.state_laws.proofs.Members.{here, later, in_map}
use Rattle.vault_types.specs.Events.{Core, Job, put_by, IsCore, after_delete}
use Rattle.vault_types.proofs.SetLemmas.{has-set_of}
use Rattle.vault_types.proofs.StateLemmas.{delete-containers, container-kept, row_ids}
use Rattle.state_laws.proofs.Changing.{latest_low}
use Rattle.state_laws.proofs.Growing.{floor_pos}
use Rattle.state_laws.proofs.Shrinking.{sets_same, latest_shrunk, has_all}

all_set : {X : Type 0} (P : X → Type 0) (xs : List X) (i : ℕ) (x : X) → AllByRecursion P xs → P x → AllByRecursion P (slice_set xs i x)
all_set P [] i x all p = tt
all_set P (y ∷ xs) zero x all p = (p, all.1)
all_set P (y ∷ xs) (suc i) x all p = (all.0, all_set P xs i x all.1 p)

all_drop : {X : Type 0} (P : X → Type 0) (i : ℕ) (xs : List X) → AllByRecursion P xs → AllByRecursion P (drop i xs)
all_drop P zero xs all = all
all_drop P (suc i) [] all = tt
all_drop P (suc i) (x ∷ xs) all = all_drop P i xs all.1

next_tail : (R : KeptVersion → KeptVersion → Type 0) (x : KeptVersion) (xs : List KeptVersion) → EachNext R (x ∷ xs) → EachNext R xs
next_tail R x [] each = tt
next_tail R x (y ∷ ys) each = each.1

next_drop : (R : KeptVersion → KeptVersion → Type 0) (i : ℕ) (xs : List KeptVersion) → EachNext R xs → EachNext R (drop i xs)
next_drop R zero xs each = each
next_drop R (suc i) [] each = tt
next_drop R (suc i) (x ∷ xs) each = next_drop R i xs (next_tail R x xs each)

all_filter : {X : Type 0} (P : X → Type 0) (p : X → Bool) (xs : List X) → AllByRecursion P xs → AllByRecursion P (filter p xs)
all_filter P p [] all = tt
all_filter P p (x ∷ xs) all = elim (p x) as (λ b. AllByRecursion P (cond b (x ∷ filter p xs) (filter p xs))) [
  | true ↦ (all.0, all_filter P p xs all.1)
  | false ↦ all_filter P p xs all.1
]

pub datasets_at : (ds : List Dataset) (s : ℕ) → s < length ds → AllByRecursion IsDataset ds → IsDataset (slice_index_or ds s empty_dataset)
datasets_at [] s below all = absurd (omega arith)
datasets_at (d ∷ ds) zero below all = all.0
datasets_at (d ∷ ds) (suc s) below all = datasets_at ds s (omega arith) all.1

all_left : (P : Row → Type 0) (xs ys : List Row) → AllByRecursion P (xs ++ ys) → AllByRecursion P xs
all_left P [] ys all = tt
all_left P (x ∷ xs) ys all = (all.0, all_left P xs ys all.1)

all_right : (P : Row → Type 0) (xs ys : List Row) → AllByRecursion P (xs ++ ys) → AllByRecursion P ys
all_right P [] ys all = all
all_right P (x ∷ xs) ys all = all_right P xs ys all.1

all_append : (P : Row → Type 0) (xs ys : List Row) → AllByRecursion P xs → AllByRecursion P ys → AllByRecursion P (xs ++ ys)
all_append P [] ys one two = two
all_append P (x ∷ xs) ys one two = (one.0, all_append P xs ys one.1 two)

rows_drop : (P : Row → Type 0) (i : ℕ) (vs : List KeptVersion) → AllByRecursion P (flat_map (λ k. k.rows) vs) → AllByRecursion P (flat_map (λ k. k.rows) (drop i vs))
rows_drop P zero vs all = all
rows_drop P (suc i) [] all = tt
rows_drop P (suc i) (v ∷ vs) all = rows_drop P i vs (all_right P v.rows (flat_map (λ k. k.rows) vs) all)

rows_set : (P : Row → Type 0) (ds : List Dataset) (s : ℕ) (floor : ℕ) → AllByRecursion P (all_rows ds) → AllByRecursion P (all_rows (slice_set ds s (without_below floor (slice_index_or ds s empty_dataset))))
rows_set P [] s floor all = tt
rows_set P (d ∷ ds) zero floor all = all_append P (flat_map (λ k. k.rows) (drop (floor - d.floor) d.versions)) (all_rows ds)
    (rows_drop P (floor - d.floor) d.versions (all_left P (flat_map (λ k. k.rows) d.versions) (all_rows ds) all)) (all_right P (flat_map (λ k. k.rows) d.versions) (all_rows ds) all)
rows_set P (d ∷ ds) (suc s) floor all = all_append P (flat_map (λ k. k.rows) d.versions) (all_rows (slice_set ds s (without_below floor (slice_index_or ds s empty_dataset))))
    (all_left P (flat_map (λ k. k.rows) d.versions) (all_rows ds) all) (rows_set P ds s floor (all_right P (flat_map (λ k. k.rows) d.versions) (all_rows ds) all))

all_both : (P Q R : Row → Type 0) (xs : List Row) → ((r : Row) → P r → Q r → R r) → AllByRecursion P xs → AllByRecursion Q xs → AllByRecursion R xs
all_both P Q R [] f p q = tt
all_both P Q R (x ∷ xs) f p q = (f x p.0 q.0, all_both P Q R xs f p.1 q.1)

pub some_versions : (floor n : ℕ) (vs : List KeptVersion) → (vs ≡ [] → floor ≡ 1) → n < floor + length vs - 1 → 0 < length vs
some_versions floor n [] fresh low = omega (arith, fresh refl)
some_versions floor n (v ∷ vs) fresh low = omega arith

pub gone : (ids : List ℕ) (k : ℕ) (cs : List Container) → has k ids ≡ false → container_in (filter (λ c. has c.table.id ids) cs) k ≡ None
gone ids k [] absent = refl
gone ids k (c ∷ cs) absent = step (has c.table.id ids) (c.table.id == k) refl refl (gone ids k cs absent)
  where
    step : (a b : Bool) → has c.table.id ids ≡ a → (c.table.id == k) ≡ b → container_in (filter (λ c. has c.table.id ids) cs) k ≡ None → container_in (cond a (c ∷ filter (λ c. has c.table.id ids) cs) (filter (λ c. has c.table.id ids) cs)) k ≡ None
    step true true e f h = let same : c.table.id ≡ k = grind (arith, nat_tests) in absurd (let clash : true ≡ false = sym e ∙ ap (λ j. has j ids) same ∙ absent in cc)
    step true false e f h = rw f h
    step false b e f h = h

kept_or_gone : (ids : List ℕ) (k : ℕ) (cs : List Container) (P : Container → Type 0) → IfSome (container_in cs k) P → IfSome (container_in (filter (λ c. has c.table.id ids) cs) k) P
kept_or_gone ids k cs P here = by_test (has k ids) refl
  where
    by_test : (b : Bool) → has k ids ≡ b → IfSome (container_in (filter (λ c. has c.table.id ids) cs) k) P
    by_test true is = subst (λ (o : Option Container). IfSome o P) (sym (container-kept ids k cs is)) here
    by_test false is = subst (λ (o : Option Container). IfSome o P) (sym (gone ids k cs is)) tt

pub last_drop : (o u : Option KeptVersion) (i : ℕ) (vs : List KeptVersion) → i < length vs → last_or o (drop i vs) ≡ last_or u vs
last_drop o u i [] below = absurd (omega arith)
last_drop o u zero (v ∷ vs) below = refl
last_drop o u (suc i) (v ∷ vs) below = last_drop o (Some v) i vs (omega arith)

map_set : (f : Dataset → ℕ) (ds : List Dataset) (s : ℕ) (d : Dataset) → f d ≡ f (slice_index_or ds s empty_dataset) → map f (slice_set ds s d) ≡ map f ds
map_set f [] s d is = refl
map_set f (e ∷ ds) zero d is = ap (λ k. k ∷ map f ds) is
map_set f (e ∷ ds) (suc s) d is = ap (λ l. f e ∷ l) (map_set f ds s d is)

map_slice_set : {X Y : Type 0} (f : X → Y) (xs : List X) (i : ℕ) (x : X) → map f (slice_set xs i x) ≡ slice_set (map f xs) i (f x)
map_slice_set f [] i x = refl
map_slice_set f (y ∷ ys) zero x = refl
map_slice_set f (y ∷ ys) (suc i) x = ap (λ l. f y ∷ l) (map_slice_set f ys i x)

-- a floor that does not rise changes nothing

all_pass : {X : Type 0} (p : X → Bool) (xs : List X) → ((x : X) → Contains xs x → p x ≡ true) → filter p xs ≡ xs
all_pass p [] all = refl
all_pass p (x ∷ xs) all = ap (λ (b : Bool). cond b (x ∷ filter p xs) (filter p xs)) (all x (here x xs)) ∙ ap (λ l. x ∷ l) (all_pass p xs (λ y there. all y (later x xs y there)))

at_own_floor : (d : Dataset) → without_below d.floor d ≡ d
at_own_floor d = let none : d.floor - d.floor ≡ 0 = omega arith in ap (λ (k : ℕ). let e : Dataset = record { floor = d.floor; versions = drop k d.versions } in e) none

pub container_named : (S : State) → IsValid S → (c : Container) → Contains S.containers c → has c.table.id (named S) ≡ true
container_named S valid c there = subst (λ (ids : List ℕ). has c.table.id ids ≡ true) valid.containers (in_map id_of S.containers c there)

pub delete_same : (S : State) (s n : ℕ) → IsValid S → n + 1 ≤ floor_of S s → delete S s n ≡ S
delete_same S s n valid low =
    let floor : max (floor_of S s) (n + 1) ≡ (dataset S s).floor = omega arith in
    ap (λ (f : ℕ). state_with S (slice_set S.datasets s (without_below f (dataset S s)))) floor
    ∙ ap (λ (d : Dataset). state_with S (slice_set S.datasets s d)) (at_own_floor (dataset S s))
    ∙ ap (λ (ds : List Dataset). state_with S ds) (set-get_or S.datasets s empty_dataset)
    ∙ ap (λ (cs : List Container). let T : State = record { datasets = S.datasets; containers = cs } in T) (all_pass (λ (c : Container). has c.table.id (named S)) S.containers (container_named S valid))

module _ (S : State) (s n : ℕ) (valid : IsValid S) (below : s < length S.datasets) (low : n < latest_of S s) where
  shrunk_valid : IsDataset (without_below (max (floor_of S s) (n + 1)) (dataset S s))
  shrunk_valid =
      let was = datasets_at S.datasets s below valid.datasets in
      let k = max (floor_of S s) (n + 1) - (dataset S s).floor in
      let pos = floor_pos S s valid in
      record {
        floor = omega arith;
        fresh = λ empty. absurd (let some = some_versions (dataset S s).floor n (dataset S s).versions was.fresh low in let e : length (drop k (dataset S s).versions) ≡ 0 = ap length empty in omega (arith, length-drop k (dataset S s).versions));
        last = omega (arith, latest_shrunk S s n valid below low, latest_low S s valid);
        each = all_drop _ k (dataset S s).versions was.each;
        sums = all_drop _ k (dataset S s).versions was.sums;
        rising = next_drop _ k (dataset S s).versions was.rising;
      }

  pub delete_valid : IsValid (delete S s n)
  delete_valid = record {
    sets = sets_same S s n valid below low ∙ valid.sets;
    datasets = all_set IsDataset S.datasets s (without_below (max (floor_of S s) (n + 1)) (dataset S s)) valid.datasets shrunk_valid;
    containers = delete-containers S s n valid.containers;
    tables = all_filter (λ c. IsTable c.table) (λ c. has c.table.id (named (delete S s n))) S.containers valid.tables;
    rows = all_both (HasFp S.containers) (λ r. has r.id (row_ids (all_rows (delete S s n).datasets)) ≡ true) (HasFp (delete S s n).containers) (all_rows (delete S s n).datasets)
        (λ r there named_too. subst (λ (o : Option Container). IsSomeAnd o (λ c. IsTrue (has_fp r.fp c.table))) (sym (container-kept (named (delete S s n)) r.id S.containers (has-set_of r.id (row_ids (all_rows (delete S s n).datasets)) ∙ named_too))) there)
        (rows_set (HasFp S.containers) S.datasets s (max (floor_of S s) (n + 1)) valid.rows)
        (has_all (all_rows (delete S s n).datasets) (all_rows (delete S s n).datasets) (λ k h. h));
  }

  -- the set's latest version stays
  pub latest_stays : latest_version (without_below (max (floor_of S s) (n + 1)) (dataset S s)) ≡ latest_version (dataset S s)
  latest_stays =
      let was = datasets_at S.datasets s below valid.datasets in
      let pos = floor_pos S s valid in
      let some = some_versions (dataset S s).floor n (dataset S s).versions was.fresh low in
      last_drop None None (max (floor_of S s) (n + 1) - (dataset S s).floor) (dataset S s).versions (omega arith)

  pub next_shrunk : next_in (without_below (max (floor_of S s) (n + 1)) (dataset S s)) ≡ next_in (dataset S s)
  next_shrunk = ap (λ (o : Option KeptVersion). unwrap_or (option_map (λ k. k.next) o) 1) latest_stays

  pub delete_next : next_of (delete S s n) ≡ next_of S
  delete_next = ap (fold max 1) (map_set next_in S.datasets s (without_below (max (floor_of S s) (n + 1)) (dataset S s)) next_shrunk)

  -- what is in memory of the sets: one floor rises
  pub delete_sets : map set_info (delete S s n).datasets ≡ slice_set (map set_info S.datasets) s (record (set_info (dataset S s)) { floor = max (floor_of S s) (n + 1) })
  delete_sets = map_slice_set set_info S.datasets s (without_below (max (floor_of S s) (n + 1)) (dataset S s)) ∙ ap (λ (d : SetInfo). slice_set (map set_info S.datasets) s d) shrunk_info
    where
      shrunk_info : set_info (without_below (max (floor_of S s) (n + 1)) (dataset S s)) ≡ record (set_info (dataset S s)) { floor = max (floor_of S s) (n + 1) }
      shrunk_info = λ i. record {
        floor = max (floor_of S s) (n + 1);
        latest = latest_shrunk S s n valid below low i;
        next = next_shrunk i;
        sparse = option_map_or (λ k. k.sparse) (latest_stays i) [];
      }

pub not_failed : (s : ℕ) → Not ≡ FailedFor s → ⊥
not_failed s is = cc

-- a deletion keeps a core
pub delete_core : (K : Core) (s n : ℕ) (strays : List Name) → IsCore K → s < length K.state.datasets → n < latest_of K.state s → K.job ≡ None → IsCore (after_delete s n strays K)
delete_core K s n strays core below low no_job = record {
  state = delete_valid K.state s n core.state below low;
  job = subst (λ (o : Option Job). map id_of (put_by o) ≡ range_with_len (next_of (delete K.state s n)) (length (put_by o))) (sym no_job) refl;
  tables = subst (λ (o : Option Job). AllByRecursion (λ c. IsTable c.table) (put_by o)) (sym no_job) tt;
  payloads = subst (λ (o : Option Job). AllByRecursion HasPayload (put_by o)) (sym no_job) tt;
  job_set = subst (λ (o : Option Job). IfSome o (λ j. j.set < length (delete K.state s n).datasets)) (sym no_job) tt;
  pins = λ c among. let was = core.pins c among in (subst (λ (k : ℕ). c.table.id < k) (sym (delete_next K.state s n core.state below low)) was.0, kept_or_gone (named (delete K.state s n)) c.table.id K.state.containers (λ d. d ≡ c) was.1);
  numbers = core.numbers;
  alone = λ some. refl;
  failed = λ t is. absurd (not_failed t is);
  other = tt;
}

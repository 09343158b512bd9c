-- A dataset with one more version, and what the rows of all versions name then.
use Rattle.std.proofs.Common.{◌≡◌, ℕ, zero, suc, ◌+◌, ◌<◌, ◌≤◌, ◌⊎◌, ⊎_elim, length, map, max, List, [], ◌∷◌, ◌++◌, Option, Some, None, refl, sym, ap, ◌∙◌, subst, arith, length-append}
use Rattle.std.specs.Prelude.{Contains, IfSome, IsSomeAnd, IsTrue, slice_set, slice_index_or, flat_map, fold, option_map, unwrap_or}
use Rattle.std.specs.Option.{option_map_or}
use Rattle.std.specs.List.{AllByRecursion, last_or}
use Rattle.std.proofs.lemmas.List.{map-append, map-set}
use Rattle.std.proofs.lemmas.List.Elements.{Contains-append_left, Contains-append_right, Contains-append_cases}
use Rattle.sha1.specs.Sha1.{sha1}
use Rattle.vault_types.specs.declared.Fp.{Fp}
use Rattle.vault_types.specs.declared.Row.{Row}
use Rattle.vault_types.specs.Lists.{has, EachNext}
use Rattle.vault_types.specs.Names.{fp, IsFp}
use Rattle.vault_types.specs.Tables.{Container, has_fp}
use Rattle.vault_types.specs.State.{State, Dataset, KeptVersion, dataset, empty_dataset, latest_in, next_in, next_of, all_rows, container_in, HasRecipeRules, IsDataset, HasFp}
use Rattle.vault_types.proofs.StateLemmas.{row_ids}
use Rattle.vault_types.proofs.GrowLemmas.{container_in-more}
use Rattle.commit_laws.proofs.Listing.{all_append, all_left, all_right, all_weaker, all_unmap, fold_below, fold_set, no_member}

-- the dataset with the version
abbrev pub more_of : Dataset → KeptVersion → Dataset
more_of d k = record { floor = d.floor; versions = d.versions ++ k ∷ [] }

-- the latest version

pub last_push : {X : Type 0} (o : Option X) (xs : List X) (x : X) → last_or o (xs ++ x ∷ []) ≡ Some x
last_push o [] x = refl
last_push o (y ∷ xs) x = last_push (Some y) xs x

pub next_more : (d : Dataset) (k : KeptVersion) → next_in (more_of d k) ≡ k.next
next_more d k = ap (λ (o : Option KeptVersion). unwrap_or (option_map (λ k. k.next) o) 1) (last_push None d.versions k)

pub sparse_more : (d : Dataset) (k : KeptVersion) → option_map_or (λ (k : KeptVersion). k.sparse) (last_or None (d.versions ++ k ∷ [])) [] ≡ k.sparse
sparse_more d k = ap (λ (o : Option KeptVersion). option_map_or (λ k. k.sparse) o []) (last_push None d.versions k)

pub latest_more : (d : Dataset) (k : KeptVersion) → 1 ≤ d.floor → latest_in (more_of d k) ≡ latest_in d + 1
latest_more d k low = omega (arith, length-append d.versions (k ∷ []))

next_push : (k : KeptVersion) (vs : List KeptVersion) → EachNext (λ k l. k.next ≤ l.next) vs → unwrap_or (option_map (λ (k : KeptVersion). k.next) (last_or None vs)) 1 ≤ k.next → EachNext (λ k l. k.next ≤ l.next) (vs ++ k ∷ [])
next_push k [] each below = tt
next_push k (v ∷ []) each below = (below, tt)
next_push k (v ∷ w ∷ vs) each below = (each.0, next_push k (w ∷ vs) each.1 below)

not_empty : {X : Type 0} (xs : List X) (x : X) → xs ++ x ∷ [] ≡ [] → ⊥
not_empty xs x e = let lengths : length (xs ++ x ∷ []) ≡ 0 = ap length e in omega (arith, length-append xs (x ∷ []))

pub more_dataset : (d : Dataset) (k : KeptVersion) → IsDataset d → HasRecipeRules k.next k.rows k.sparse → IsFp k.sum → (k.rows ≡ [] → k.sum ≡ fp []) → next_in d ≤ k.next → latest_in d + 1 ≤ 4294967294 → IsDataset (more_of d k)
more_dataset d k was rules sum empty next last = record {
  floor = was.floor;
  fresh = λ e. absurd (not_empty d.versions k e);
  last = let e = latest_more d k was.floor in omega (arith, e, last);
  each = all_append (λ k. HasRecipeRules k.next k.rows k.sparse) d.versions (k ∷ []) was.each (rules, tt);
  sums = all_append (λ k. IsFp k.sum × (k.rows ≡ [] → k.sum ≡ fp [])) d.versions (k ∷ []) was.sums ((sum, empty), tt);
  rising = next_push k d.versions was.rising next;
}

-- the sum of a version

pub whole_fp : (o : Option Fp) (f : Fp) → IsFp f → IfSome o IsFp → IsFp (unwrap_or o f)
whole_fp None f is rule = is
whole_fp (Some w) f is rule = rule

pub whole_empty : (o : Option Fp) (bytes : List ℕ) → bytes ≡ [] → IfSome o (λ w. w.0 ≡ sha1 []) → unwrap_or o (fp bytes) ≡ fp []
whole_empty None bytes e rule = ap fp e
whole_empty (Some w) bytes e rule = λ i. record { 0 = rule i }

-- the datasets

pub dataset_at : (ds : List Dataset) (s : ℕ) → s < length ds → AllByRecursion IsDataset ds → IsDataset (slice_index_or ds s empty_dataset)
dataset_at [] s below all = absurd (omega arith)
dataset_at (d ∷ ds) zero below all = all.0
dataset_at (d ∷ ds) (suc s) below all = dataset_at ds s (omega arith) all.1

next_at : (ds : List Dataset) (s n : ℕ) → s < length ds → AllByRecursion (λ d. next_in d ≤ n) ds → next_in (slice_index_or ds s empty_dataset) ≤ n
next_at [] s n below all = absurd (omega arith)
next_at (d ∷ ds) zero n below all = all.0
next_at (d ∷ ds) (suc s) n below all = next_at ds s n (omega arith) all.1

-- a set's next id is not above that of the state
pub next_in_low : (S : State) (s : ℕ) → s < length S.datasets → next_in (dataset S s) ≤ next_of S
next_in_low S s below = next_at S.datasets s (next_of S) below (all_unmap next_in (λ n. n ≤ next_of S) S.datasets (fold_below 1 (next_of S) (map next_in S.datasets) (omega arith)).1)

length_map : {X Y : Type 0} (f : X → Y) (xs : List X) → length (map f xs) ≡ length xs
length_map f [] = refl
length_map f (x ∷ xs) = ap suc (length_map f xs)

-- the next id of the state with the version is the version's
pub next_set : (S : State) (s : ℕ) (d : Dataset) → s < length S.datasets → next_of S ≤ next_in d → fold max 1 (map next_in (slice_set S.datasets s d)) ≡ next_in d
next_set S s d below high =
    let old = fold_below 1 (next_of S) (map next_in S.datasets) (omega arith) in
    ap (fold max 1) (map-set next_in S.datasets s d)
    ∙ fold_set 1 (next_in d) (map next_in S.datasets) s (omega (arith, length_map next_in S.datasets)) (omega (arith, old.0))
    (all_weaker (λ n. n ≤ next_of S) (λ n. n ≤ next_in d) (map next_in S.datasets) (λ n h. omega (arith, h, high)) old.1)

-- rows

versions_rows : (P : Row → Type 0) (vs : List KeptVersion) (k : KeptVersion) → AllByRecursion P (flat_map (λ v. v.rows) vs) → AllByRecursion P k.rows → AllByRecursion P (flat_map (λ v. v.rows) (vs ++ k ∷ []))
versions_rows P [] k old new = all_append P k.rows [] new tt
versions_rows P (v ∷ vs) k old new =
    all_append P v.rows (flat_map (λ v. v.rows) (vs ++ k ∷ [])) (all_left P v.rows (flat_map (λ v. v.rows) vs) old) (versions_rows P vs k (all_right P v.rows (flat_map (λ v. v.rows) vs) old) new)

-- what holds of all rows and of the version's rows holds of all rows with the version
pub rows_with : (P : Row → Type 0) (ds : List Dataset) (s : ℕ) (k : KeptVersion) → AllByRecursion P (all_rows ds) → AllByRecursion P k.rows → AllByRecursion P (all_rows (slice_set ds s (more_of (slice_index_or ds s empty_dataset) k)))
rows_with P [] s k old new = tt
rows_with P (d ∷ ds) zero k old new =
    all_append P (flat_map (λ v. v.rows) (d.versions ++ k ∷ [])) (all_rows ds) (versions_rows P d.versions k (all_left P (flat_map (λ v. v.rows) d.versions) (all_rows ds) old) new) (all_right P (flat_map (λ v. v.rows) d.versions) (all_rows ds) old)
rows_with P (d ∷ ds) (suc s) k old new =
    all_append P (flat_map (λ v. v.rows) d.versions) (all_rows (slice_set ds s (more_of (slice_index_or ds s empty_dataset) k)))
    (all_left P (flat_map (λ v. v.rows) d.versions) (all_rows ds) old) (rows_with P ds s k (all_right P (flat_map (λ v. v.rows) d.versions) (all_rows ds) old) new)

-- an id that rows name

ids_left : (xs ys : List Row) (j : ℕ) → Contains (row_ids xs) j → Contains (row_ids (xs ++ ys)) j
ids_left xs ys j there = subst (λ (l : List ℕ). Contains l j) (sym (map-append (λ (r : Row). r.id) xs ys)) (Contains-append_left (row_ids xs) (row_ids ys) j there)

ids_right : (xs ys : List Row) (j : ℕ) → Contains (row_ids ys) j → Contains (row_ids (xs ++ ys)) j
ids_right xs ys j there = subst (λ (l : List ℕ). Contains l j) (sym (map-append (λ (r : Row). r.id) xs ys)) (Contains-append_right (row_ids xs) (row_ids ys) j there)

ids_cases : (xs ys : List Row) (j : ℕ) → Contains (row_ids (xs ++ ys)) j → Contains (row_ids xs) j ⊎ Contains (row_ids ys) j
ids_cases xs ys j there = Contains-append_cases (row_ids xs) (row_ids ys) j (subst (λ (l : List ℕ). Contains l j) (map-append (λ (r : Row). r.id) xs ys) there)

versions_kept : (vs : List KeptVersion) (k : KeptVersion) (j : ℕ) → Contains (row_ids (flat_map (λ v. v.rows) vs)) j → Contains (row_ids (flat_map (λ v. v.rows) (vs ++ k ∷ []))) j
versions_kept [] k j there = absurd (no_member j there)
versions_kept (v ∷ vs) k j there = ⊎_elim
    (λ here. ids_left v.rows (flat_map (λ v. v.rows) (vs ++ k ∷ [])) j here)
    (λ more. ids_right v.rows (flat_map (λ v. v.rows) (vs ++ k ∷ [])) j (versions_kept vs k j more))
    (ids_cases v.rows (flat_map (λ v. v.rows) vs) j there)

versions_new : (vs : List KeptVersion) (k : KeptVersion) (j : ℕ) → Contains (row_ids k.rows) j → Contains (row_ids (flat_map (λ v. v.rows) (vs ++ k ∷ []))) j
versions_new [] k j there = ids_left k.rows [] j there
versions_new (v ∷ vs) k j there = ids_right v.rows (flat_map (λ v. v.rows) (vs ++ k ∷ [])) j (versions_new vs k j there)

-- what was named is named
pub ids_kept : (ds : List Dataset) (s : ℕ) (k : KeptVersion) (j : ℕ) → Contains (row_ids (all_rows ds)) j → Contains (row_ids (all_rows (slice_set ds s (more_of (slice_index_or ds s empty_dataset) k)))) j
ids_kept [] s k j there = there
ids_kept (d ∷ ds) zero k j there = ⊎_elim
    (λ here. ids_left (flat_map (λ v. v.rows) (d.versions ++ k ∷ [])) (all_rows ds) j (versions_kept d.versions k j here))
    (λ more. ids_right (flat_map (λ v. v.rows) (d.versions ++ k ∷ [])) (all_rows ds) j more)
    (ids_cases (flat_map (λ v. v.rows) d.versions) (all_rows ds) j there)
ids_kept (d ∷ ds) (suc s) k j there = ⊎_elim
    (λ here. ids_left (flat_map (λ v. v.rows) d.versions) (all_rows (slice_set ds s (more_of (slice_index_or ds s empty_dataset) k))) j here)
    (λ more. ids_right (flat_map (λ v. v.rows) d.versions) (all_rows (slice_set ds s (more_of (slice_index_or ds s empty_dataset) k))) j (ids_kept ds s k j more))
    (ids_cases (flat_map (λ v. v.rows) d.versions) (all_rows ds) j there)

-- what the version names is named
pub ids_new : (ds : List Dataset) (s : ℕ) (k : KeptVersion) (j : ℕ) → s < length ds → Contains (row_ids k.rows) j → Contains (row_ids (all_rows (slice_set ds s (more_of (slice_index_or ds s empty_dataset) k)))) j
ids_new [] s k j below there = absurd (omega arith)
ids_new (d ∷ ds) zero k j below there = ids_left (flat_map (λ v. v.rows) (d.versions ++ k ∷ [])) (all_rows ds) j (versions_new d.versions k j there)
ids_new (d ∷ ds) (suc s) k j below there = ids_right (flat_map (λ v. v.rows) d.versions) (all_rows (slice_set ds s (more_of (slice_index_or ds s empty_dataset) k))) j (ids_new ds s k j (omega arith) there)

-- a row's fingerprint is where it was, also behind more containers
pub has_fp_more : (cs more : List Container) (r : Row) → HasFp cs r → HasFp (cs ++ more) r
has_fp_more cs more r has = at (container_in cs r.id) refl has
  where
    at : (o : Option Container) → container_in cs r.id ≡ o → IsSomeAnd o (λ c. IsTrue (has_fp r.fp c.table)) → HasFp (cs ++ more) r
    at None is none = absurd none
    at (Some c) is there = subst (λ (o : Option Container). IsSomeAnd o (λ c. IsTrue (has_fp r.fp c.table))) (sym (container_in-more cs more r.id c is)) there

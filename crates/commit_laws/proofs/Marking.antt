-- The markers and the sets in memory over a commit.
use Rattle.std.proofs.Common.{◌≡◌, ℕ, ◌+◌, ◌-◌, ◌<◌, ◌≤◌, ⊎_elim, length, map, List, ◌++◌, Option, Some, None, refl, sym, ap, ◌∙◌, subst, arith}
use Rattle.std.specs.Prelude.{Contains, slice_set, slice_index_or}
use Rattle.std.proofs.lemmas.List.{map-set, get_or-map, length-map}
use Rattle.std.proofs.lemmas.List.Sums.{sum_by-set}
use Rattle.std.proofs.lemmas.List.Elements.{Contains-append_left, Contains-append_right, Contains-append_cases}
use Rattle.vault_types.specs.declared.Row.{Row}
use Rattle.vault_types.specs.declared.Recipe.{Recipe}
use Rattle.vault_types.specs.Lists.{set_of}
use Rattle.vault_types.specs.Marks.{Mark, marks_of}
use Rattle.vault_types.specs.State.{State, Dataset, KeptVersion, dataset, empty_dataset, floor_of, latest_in, latest_of, version_of, IsValid}
use Rattle.vault_types.specs.Events.{Job, committed}
use Rattle.vault_types.proofs.SetLemmas.{has-set_of}
use Rattle.vault_types.proofs.GrowLemmas.{version_of-new, version_of-kept}
use Rattle.state_laws.proofs.Growing.{floor_pos, version_back}
use Rattle.keeper_catalog.specs.declared.SetInfo.{SetInfo}
use Rattle.keeper_catalog.specs.Catalog.{set_info, versions_in, Names, AreMarks}
use Rattle.commit_laws.proofs.Listing.{all_at, all_map, all_unmap, all_weaker, themselves, has_of, contains_of}
use Rattle.commit_laws.proofs.Growing.{more_of, next_more, sparse_more, latest_more}

-- marks of a version

mark_is : (s v : ℕ) (ids : List ℕ) (m : Mark) → Contains (marks_of s v ids) m → Contains ids m.id × (m.set ≡ s) × (m.version ≡ v)
mark_is s v ids m there = all_at (λ (m : Mark). Contains ids m.id × (m.set ≡ s) × (m.version ≡ v)) (marks_of s v ids) m
    (all_map (λ (c : ℕ). record { id = c; set = s; version = v }) (λ (m : Mark). Contains ids m.id × (m.set ≡ s) × (m.version ≡ v)) ids
    (all_weaker (Contains ids) (λ c. Contains ids c × (s ≡ s) × (v ≡ v)) ids (λ c here. (here, refl, refl)) (themselves ids)))
    there

is_mark : (s v : ℕ) (ids : List ℕ) (c : ℕ) → Contains ids c → Contains (marks_of s v ids) (record { id = c; set = s; version = v })
is_mark s v ids c there = all_at (λ (c : ℕ). Contains (marks_of s v ids) (record { id = c; set = s; version = v })) ids c
    (all_unmap (λ (c : ℕ). record { id = c; set = s; version = v }) (Contains (marks_of s v ids)) ids (themselves (marks_of s v ids)))
    there

module _ (S : State) (job : Job) (r : Recipe) (k : KeptVersion) (valid : IsValid S) (below : job.set < length S.datasets) (rows : k.rows ≡ r.rows) (number : r.version ≡ latest_of S job.set + 1) where
  abbrev ids : List ℕ
  ids = set_of (map (λ (q : Row). q.id) r.rows)

  in_set : (c : ℕ) → Contains (map (λ (q : Row). q.id) k.rows) c → Contains ids c
  in_set c there = contains_of c ids (has-set_of c (map (λ (q : Row). q.id) r.rows) ∙ has_of c (map (λ (q : Row). q.id) r.rows) (subst (λ (l : List Row). Contains (map (λ (q : Row). q.id) l) c) rows there))

  of_set : (c : ℕ) → Contains ids c → Contains (map (λ (q : Row). q.id) k.rows) c
  of_set c there = subst (λ (l : List Row). Contains (map (λ (q : Row). q.id) l) c) (sym rows) (contains_of c (map (λ (q : Row). q.id) r.rows) (sym (has-set_of c (map (λ (q : Row). q.id) r.rows)) ∙ has_of c ids there))

  new_is : version_of (committed k job S) job.set r.version ≡ Some k
  new_is = ap (λ (w : ℕ). version_of (committed k job S) job.set w) number ∙ version_of-new S job.set k job.containers below (floor_pos S job.set valid)

  kept_names : (s v c : ℕ) (o : Option KeptVersion) → version_of S s v ≡ o → Names o c → Names (version_of (committed k job S) s v) c
  kept_names s v c None is names = absurd names
  kept_names s v c (Some j) is names = subst (λ (o : Option KeptVersion). Names o c) (sym (version_of-kept S job.set k job.containers s v j below is)) names

  new_names : (m : Mark) → Contains (marks_of job.set r.version ids) m → Names (version_of (committed k job S) m.set m.version) m.id
  new_names m there =
      let is = mark_is job.set r.version ids m there in
      subst (λ (o : Option KeptVersion). Names o m.id)
      (sym (ap (λ (t : ℕ). version_of (committed k job S) t m.version) is.1 ∙ ap (λ (w : ℕ). version_of (committed k job S) job.set w) is.2 ∙ new_is))
      (of_set m.id is.0)

  marked : (marks : List Mark) → AreMarks marks S → (s v c : ℕ) (o : Option KeptVersion) → version_of (committed k job S) s v ≡ o → Names o c → Contains (marks ++ marks_of job.set r.version ids) (record { id = c; set = s; version = v })
  marked marks are s v c None is names = absurd names
  marked marks are s v c (Some j) is names = ⊎_elim
      (λ new. Contains-append_right marks (marks_of job.set r.version ids) (record { id = c; set = s; version = v })
      (subst (λ (m : Mark). Contains (marks_of job.set r.version ids) m) (λ i. record { id = c; set = sym new.0 i; version = (number ∙ sym new.1) i })
      (is_mark job.set r.version ids c (in_set c (subst (λ (q : KeptVersion). Contains (map (λ (q : Row). q.id) q.rows) c) new.2 names)))))
      (λ old. Contains-append_left marks (marks_of job.set r.version ids) (record { id = c; set = s; version = v }) (are.complete s v c (subst (λ (o : Option KeptVersion). Names o c) (sym old) names)))
      (version_back S job.set k job.containers valid below s v j is)

  -- with the version's marks the marks are those of the new state
  pub commit_markers : (marks : List Mark) → AreMarks marks S → AreMarks (marks ++ marks_of job.set r.version (set_of (map (λ q. q.id) r.rows))) (committed k job S)
  commit_markers marks are = record {
    sound = λ m there. ⊎_elim
        (λ old. kept_names m.set m.version m.id (version_of S m.set m.version) refl (are.sound m old))
        (λ new. new_names m new)
        (Contains-append_cases marks (marks_of job.set r.version ids) m there);
    complete = λ s v c names. marked marks are s v c (version_of (committed k job S) s v) refl names;
  }

-- what is in memory of the sets
pub commit_sets : (S : State) (job : Job) (r : Recipe) (k : KeptVersion) → IsValid S → k.next ≡ r.next → k.sparse ≡ r.sparse → r.version ≡ latest_of S job.set + 1
    → map set_info (committed k job S).datasets ≡ slice_set (map set_info S.datasets) job.set (record { floor = floor_of S job.set; latest = r.version; next = r.next; sparse = r.sparse })
commit_sets S job r k valid next sparse number =
    let d : Dataset = dataset S job.set in
    let latest = latest_more d k (floor_pos S job.set valid) ∙ sym number in
    let first = next_more d k ∙ next in
    let few = sparse_more d k ∙ sparse in
    map-set set_info S.datasets job.set (more_of d k)
    ∙ ap (slice_set (map set_info S.datasets) job.set) (λ i. record { floor = floor_of S job.set; latest = latest i; next = first i; sparse = few i })

-- one more version is kept

added : (a b x y : ℕ) → a + x ≡ b + y → y ≡ x + 1 → a ≡ b + 1
added a b x y e f = omega (arith, e, f)

abbrev kept : SetInfo → ℕ
kept i = i.latest + 1 - i.floor

pub commit_versions : (S : State) (job : Job) (k : KeptVersion) → IsValid S → job.set < length S.datasets → versions_in (map set_info (committed k job S).datasets) ≡ versions_in (map set_info S.datasets) + 1
commit_versions S job k valid below =
    let d : Dataset = dataset S job.set in
    let low : 1 ≤ d.floor = floor_pos S job.set valid in
    let latest : latest_in (more_of d k) ≡ latest_in d + 1 = latest_more d k low in
    let there : slice_index_or (map set_info S.datasets) job.set (set_info empty_dataset) ≡ set_info d = get_or-map set_info S.datasets job.set empty_dataset (set_info empty_dataset) below in
    ap versions_in (map-set set_info S.datasets job.set (more_of d k))
    ∙ added (versions_in (slice_set (map set_info S.datasets) job.set (set_info (more_of d k)))) (versions_in (map set_info S.datasets)) (kept (slice_index_or (map set_info S.datasets) job.set (set_info empty_dataset))) (kept (set_info (more_of d k)))
    (sum_by-set kept (map set_info S.datasets) job.set (set_info (more_of d k)) (set_info empty_dataset) (omega (arith, length-map S.datasets set_info)))
    (counted d low latest ∙ ap (λ (i : SetInfo). kept i + 1) (sym there))
  where
    counted : (d : Dataset) → 1 ≤ d.floor → latest_in (more_of d k) ≡ latest_in d + 1 → latest_in (more_of d k) + 1 - d.floor ≡ latest_in d + 1 - d.floor + 1
    counted d low latest = omega (arith, latest)

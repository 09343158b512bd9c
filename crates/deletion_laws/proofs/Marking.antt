-- The marks of a state and of a deletion of it.
use Rattle.std.proofs.Common.{◌≡◌, ◌≢◌, ◌⊎◌, inl, inr, ⊎_elim, ℕ, suc, ◌<◌, ◌≤◌, ◌+◌, ◌-◌, max, length, map, Bool, true, false, cond, ◌||◌, ◌&&◌, not, List, [], ◌∷◌, Option, Some, None, refl, sym, ◌∙◌, ap, subst, arith}
use Rattle.std.specs.Prelude.{Contains, slice_index_or, slice_get, filter, flat_map, nat_lt, ◌==◌}
use Rattle.std.proofs.lemmas.Bool.Decides.{nat_tests}
use Rattle.vault_types.specs.declared.Row.{Row}
use Rattle.vault_types.specs.Lists.{has}
use Rattle.vault_types.specs.Marks.{Mark, marked_ids, marks_above, freed_ids}
use Rattle.vault_types.specs.State.{State, Dataset, KeptVersion, dataset, empty_dataset, latest_of, floor_of, version_in, version_of, all_rows, named, IsValid}
use Rattle.vault_types.specs.Delete.{delete, reclaimed_ids}
use Rattle.vault_types.proofs.SetLemmas.{has-set_of, IsAscending-set_of, ascending_unique}
use Rattle.vault_types.proofs.StateLemmas.{own_version, row_ids}
use Rattle.state_laws.proofs.Changing.{version_low}
use Rattle.state_laws.proofs.Growing.{rows_of}
use Rattle.keeper_catalog.specs.Catalog.{Names, AreMarks}
use Rattle.state_laws.proofs.Members.{both_ways, of_map, in_map, has_contained, contained, has-map_append, filter_contains, filter_passed, filter_within}
use Rattle.state_laws.proofs.Shrinking.{has_all, all_has, at_set}

-- the versions that name an id

abbrev HasAt : List KeptVersion → ℕ → Type 0
HasAt vs k = (i : ℕ) × (j : KeptVersion) × (slice_get vs i ≡ Some j) × (has k (row_ids j.rows) ≡ true)

version_at : (vs : List KeptVersion) (k : ℕ) → has k (row_ids (flat_map (λ v. v.rows) vs)) ≡ true → HasAt vs k
version_at [] k h = absurd (let e : false ≡ true = h in cc)
version_at (v ∷ vs) k h = step (has k (row_ids v.rows)) refl (sym (has-map_append (λ (r : Row). r.id) k v.rows (flat_map (λ v. v.rows) vs)) ∙ h) (version_at vs k)
  where
    step : (b : Bool) → has k (row_ids v.rows) ≡ b → (b || has k (row_ids (flat_map (λ v. v.rows) vs))) ≡ true → (has k (row_ids (flat_map (λ v. v.rows) vs)) ≡ true → HasAt vs k) → HasAt (v ∷ vs) k
    step true e i rest = (0, v, refl, e)
    step false e i rest = let r = rest i in (suc r.0, r.1, r.2, r.3)

at_floor : (d : Dataset) (i : ℕ) → version_in d (d.floor + i) ≡ slice_get d.versions i
at_floor d i =
    let low : nat_lt (d.floor + i) d.floor ≡ false = grind (arith, nat_tests) in
    let place : d.floor + i - d.floor ≡ i = omega arith in
    ap (λ (b : Bool). cond b None (slice_get d.versions (d.floor + i - d.floor))) low ∙ ap (slice_get d.versions) place

abbrev NamedAt : List Dataset → ℕ → Type 0
NamedAt ds k = (s : ℕ) × (v : ℕ) × Names (version_in (slice_index_or ds s empty_dataset) v) k

named_at : (ds : List Dataset) (k : ℕ) → has k (row_ids (all_rows ds)) ≡ true → NamedAt ds k
named_at [] k h = absurd (let e : false ≡ true = h in cc)
named_at (d ∷ ds) k h = step (has k (row_ids (flat_map (λ v. v.rows) d.versions))) refl (sym (has-map_append (λ (r : Row). r.id) k (flat_map (λ v. v.rows) d.versions) (all_rows ds)) ∙ h) (named_at ds k)
  where
    step : (b : Bool) → has k (row_ids (flat_map (λ v. v.rows) d.versions)) ≡ b → (b || has k (row_ids (all_rows ds))) ≡ true → (has k (row_ids (all_rows ds)) ≡ true → NamedAt ds k) → NamedAt (d ∷ ds) k
    step true e i rest =
        let r = version_at d.versions k e in
        (0, d.floor + r.0, subst (λ (o : Option KeptVersion). Names o k) (sym (at_floor d r.0 ∙ r.2)) (contained (row_ids r.1.rows) k r.3))
    step false e i rest = let r = rest i in (suc r.0, r.1, r.2)

kept_name : (o : Option KeptVersion) (k : ℕ) → Names o k → (j : KeptVersion) × (o ≡ Some j) × Contains (row_ids j.rows) k
kept_name None k h = absurd h
kept_name (Some j) k h = (j, refl, h)

named_has : (S : State) (s v k : ℕ) → Names (version_of S s v) k → has k (row_ids (all_rows S.datasets)) ≡ true
named_has S s v k h =
    let j = kept_name (version_of S s v) k h in
    let rows = rows_of S s v j.0 (λ r. has r.id (row_ids (all_rows S.datasets)) ≡ true) (has_all (all_rows S.datasets) (all_rows S.datasets) (λ i e. e)) j.1 in
    all_has (row_ids (all_rows S.datasets)) j.0.rows rows k (has_contained (row_ids j.0.rows) k j.2)

-- a version names an id exactly where it is in the list of the named ones
pub named_somewhere : (S : State) (k : ℕ) → has k (named S) ≡ true → (s : ℕ) × (v : ℕ) × Names (version_of S s v) k
named_somewhere S k h = named_at S.datasets k (sym (has-set_of k (row_ids (all_rows S.datasets))) ∙ h)

pub named_by : (S : State) (s v k : ℕ) → Names (version_of S s v) k → has k (named S) ≡ true
named_by S s v k h = has-set_of k (row_ids (all_rows S.datasets)) ∙ named_has S s v k h

-- the marks of a state name what the state names
pub marked_are_named : (S : State) (marks : List Mark) → AreMarks marks S → marked_ids marks ≡ named S
marked_are_named S marks are = ascending_unique (marked_ids marks) (named S) (IsAscending-set_of (map (λ m. m.id) marks)) (IsAscending-set_of (row_ids (all_rows S.datasets))) same
  where
    same : (k : ℕ) → has k (marked_ids marks) ≡ has k (named S)
    same k = has-set_of k (map (λ m. m.id) marks) ∙ both_ways _ _
        (λ h. let r = of_map (λ (m : Mark). m.id) marks k h in subst (λ (i : ℕ). has i (named S) ≡ true) r.2 (named_by S r.0.set r.0.version r.0.id (are.sound r.0 r.1)))
        (λ h. let r = named_somewhere S k h in in_map (λ (m : Mark). m.id) marks (record { id = k; set = r.0; version = r.1 }) (are.complete r.0 r.1 k r.2))

module _ (S : State) (s n : ℕ) (valid : IsValid S) (below : s < length S.datasets) (low : n < latest_of S s) where
  -- versions of other sets stay, and those from the new floor on
  pub version_stays : (t v : ℕ) → (t ≢ s) ⊎ (max (floor_of S s) (n + 1) ≤ v) → version_of (delete S s n) t v ≡ version_of S t v
  version_stays t v may = ⊎_elim
      (λ here. ⊎_elim (λ other. absurd (other here.0))
      (λ high. ap (λ (d : Dataset). version_in d v) here.1 ∙ own_version (dataset S s) (max (floor_of S s) (n + 1)) v (omega arith) high ∙ ap (λ (u : ℕ). version_of S u v) (sym here.0)) may)
      (λ there. ap (λ (d : Dataset). version_in d v) there.1)
      (at_set S s n valid below low t)

  -- a version that is kept is of another set, or not below the new floor
  pub version_stayed : (t v : ℕ) (j : KeptVersion) → version_of (delete S s n) t v ≡ Some j → (t ≢ s) ⊎ (max (floor_of S s) (n + 1) ≤ v)
  version_stayed t v j is = ⊎_elim
      (λ here. inr (let f : floor_of (delete S s n) t ≡ max (floor_of S s) (n + 1) = ap (λ (d : Dataset). d.floor) here.1 in omega (arith, version_low (delete S s n) t v j is)))
      (λ there. inl there.0)
      (at_set S s n valid below low t)

  above : (t v : ℕ) → not ((t == s) && nat_lt v (max (floor_of S s) (n + 1))) ≡ true → (t ≢ s) ⊎ (max (floor_of S s) (n + 1) ≤ v)
  above t v = step (t == s) (nat_lt v (max (floor_of S s) (n + 1))) refl refl
    where
      step : (a b : Bool) → (t == s) ≡ a → nat_lt v (max (floor_of S s) (n + 1)) ≡ b → not (a && b) ≡ true → (t ≢ s) ⊎ (max (floor_of S s) (n + 1) ≤ v)
      step true true e f h = absurd (let c : false ≡ true = h in cc)
      step true false e f h = inr (let g : max (floor_of S s) (n + 1) ≤ v = grind (arith, nat_tests) in g)
      step false b e f h = inl (let g : t ≢ s = grind (arith, nat_tests) in g)

  is_above : (t v : ℕ) → (t ≢ s) ⊎ (max (floor_of S s) (n + 1) ≤ v) → not ((t == s) && nat_lt v (max (floor_of S s) (n + 1))) ≡ true
  is_above t v may = step (t == s) (nat_lt v (max (floor_of S s) (n + 1))) refl refl
    where
      step : (a b : Bool) → (t == s) ≡ a → nat_lt v (max (floor_of S s) (n + 1)) ≡ b → not (a && b) ≡ true
      step true true e f =
          let same : t ≡ s = grind (arith, nat_tests) in
          let less : v < max (floor_of S s) (n + 1) = grind (arith, nat_tests) in
          ⊎_elim (λ other. absurd (other same)) (λ high. absurd (omega arith)) may
      step true false e f = refl
      step false b e f = refl

  -- the marks above the new floor are those of the deletion
  pub delete_marks : (marks : List Mark) → AreMarks marks S → AreMarks (marks_above s (max (floor_of S s) (n + 1)) marks) (delete S s n)
  delete_marks marks are = record {
    sound = λ m among.
        let stays = version_stays m.set m.version (above m.set m.version (filter_passed (λ m. not ((m.set == s) && nat_lt m.version (max (floor_of S s) (n + 1)))) marks m among)) in
        subst (λ (o : Option KeptVersion). Names o m.id) (sym stays) (are.sound m (filter_within (λ m. not ((m.set == s) && nat_lt m.version (max (floor_of S s) (n + 1)))) marks m among));
    complete = λ t v id names.
        let j = kept_name (version_of (delete S s n) t v) id names in
        let stays = version_stayed t v j.0 j.1 in
        filter_contains (λ m. not ((m.set == s) && nat_lt m.version (max (floor_of S s) (n + 1)))) marks (record { id = id; set = t; version = v })
        (are.complete t v id (subst (λ (o : Option KeptVersion). Names o id) (version_stays t v stays) names)) (is_above t v stays);
  }

  -- what the markers free are the containers that lose their last name
  pub freed_are : (marks : List Mark) → AreMarks marks S → freed_ids s (max (floor_of S s) (n + 1)) marks ≡ reclaimed_ids S (delete S s n)
  freed_are marks are =
      ap (λ (ids : List ℕ). filter (λ c. not (has c ids)) (marked_ids marks)) (marked_are_named (delete S s n) (marks_above s (max (floor_of S s) (n + 1)) marks) (delete_marks marks are))
      ∙ ap (λ (ids : List ℕ). filter (λ c. not (has c (named (delete S s n)))) ids) (marked_are_named S marks are)

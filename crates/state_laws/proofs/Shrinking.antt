-- What a deletion leaves of a state and its blobs.
use Rattle.std.proofs.Common.{◌≡◌, ◌≢◌, ◌⊎◌, inl, inr, ⊎_elim, ℕ, ◌<◌, ◌≤◌, ◌+◌, ◌-◌, max, length, Bool, true, false, cond, List, [], ◌∷◌, drop, Option, Some, None, refl, sym, ◌∙◌, ap, subst, arith, length-drop, ◌||◌}
use Rattle.std.specs.Prelude.{Contains, IsSome, IfSome, slice_get, nat_eq, nat_lt}
use Rattle.std.specs.Option.{option_map_or}
use Rattle.std.specs.List.{AllByRecursion}
use Rattle.std.proofs.lemmas.List.{get_or-set_same, get_or-set_other, length-set}
use Rattle.std.proofs.lemmas.Bool.Decides.{nat_tests}
use Rattle.std.proofs.lemmas.List.Elements.{Contains-append_left, Contains-append_right, Contains-append_cases}
use Rattle.std.specs.FinMap as fin
use Rattle.vault_types.specs.declared.Name.{Name}
use Rattle.vault_types.specs.declared.Row.{Row}
use Rattle.vault_types.specs.Names.{fp}
use Rattle.vault_types.specs.Lists.{has}
use Rattle.vault_types.specs.Tables.{Container}
use Rattle.vault_types.specs.State.{State, Dataset, KeptVersion, dataset, empty_dataset, latest_in, latest_of, floor_of, version_in, version_of, all_rows, named, IsValid}
use Rattle.vault_types.specs.Bytes.{bytes_of, row_bytes}
use Rattle.vault_types.specs.Blobs.{floor_bytes}
use Rattle.vault_types.specs.Delete.{delete, without_below}
use Rattle.vault_types.specs.Shelf.{Blobs, with_blob, recipe_name, floor_name, IsFloorBlob, IsRecipeBlob, Stands}
use Rattle.vault_types.specs.Events.{Core, Job, put_by, pinned_containers, IsContainerName, IsNeeded, Held, IsChange, after_delete, delete_change}
use Rattle.vault_types.proofs.SetLemmas.{has-set_of}
use Rattle.vault_types.proofs.StateLemmas.{own_version, row_bytes-kept, row_ids}
use Rattle.vault_traits.proofs.Maps.{get_other, get_is, written_or_other}
use Rattle.state_laws.specs.Parts.{Changes, CanClean}
use Rattle.state_laws.proofs.Standing.{keeps_container, needs_floor, needs_beside}
use Rattle.state_laws.proofs.Changing.{recipe_no_floor, floor_no_table, floor_no_payload, next_unneeded}
use Rattle.state_laws.proofs.Members.{filter_within}
use Rattle.state_laws.proofs.Growing.{floor_pos, same_or_not, rows_of}

-- ids

pub has_all : (more : List Row) (rows : List Row) → ((k : ℕ) → has k (row_ids rows) ≡ true → has k (row_ids more) ≡ true) → AllByRecursion (λ r. has r.id (row_ids more) ≡ true) rows
has_all more [] within = tt
has_all more (r ∷ rows) within = (
  within r.id (let e : nat_eq r.id r.id ≡ true = grind (arith, nat_tests) in ap (λ b. b || has r.id (row_ids rows)) e),
  has_all more rows (λ k h. within k (or_right (nat_eq k r.id) (has k (row_ids rows)) h)),
)
  where
    or_right : (a b : Bool) → b ≡ true → (a || b) ≡ true
    or_right true b h = refl
    or_right false b h = h

pub all_has : (ids : List ℕ) (rows : List Row) → AllByRecursion (λ r. has r.id ids ≡ true) rows → (k : ℕ) → has k (row_ids rows) ≡ true → has k ids ≡ true
all_has ids [] all k h = absurd (let clash : false ≡ true = h in cc)
all_has ids (r ∷ rows) all k h = step (nat_eq k r.id) refl h (all_has ids rows all.1 k)
  where
    step : (b : Bool) → nat_eq k r.id ≡ b → (b || has k (row_ids rows)) ≡ true → (has k (row_ids rows) ≡ true → has k ids ≡ true) → has k ids ≡ true
    step true e i rest = let same : k ≡ r.id = grind (arith, nat_tests) in ap (λ j. has j ids) same ∙ all.0
    step false e i rest = rest i

module _ (S : State) (s n : ℕ) (valid : IsValid S) (below : s < length S.datasets) (low : n < latest_of S s) where
  abbrev floor : ℕ
  floor = max (floor_of S s) (n + 1)

  abbrev shrunk : Dataset
  shrunk = without_below (max (floor_of S s) (n + 1)) (dataset S s)

  pub sets_same : length (delete S s n).datasets ≡ length S.datasets
  sets_same = length-set S.datasets s shrunk

  pub at_set : (t : ℕ) → ((t ≡ s) × (dataset (delete S s n) t ≡ shrunk)) ⊎ ((t ≢ s) × (dataset (delete S s n) t ≡ dataset S t))
  at_set t = ⊎_elim
      (λ is. inl (is, ap (λ (u : ℕ). dataset (delete S s n) u) is ∙ get_or-set_same S.datasets s shrunk empty_dataset below))
      (λ other. inr (other, get_or-set_other S.datasets s t shrunk empty_dataset other))
      (same_or_not t s)

  pub floor_new : floor_of (delete S s n) s ≡ max (floor_of S s) (n + 1)
  floor_new = ap (λ (d : Dataset). d.floor) (get_or-set_same S.datasets s shrunk empty_dataset below)

  pub latest_shrunk : latest_in shrunk ≡ latest_of S s
  latest_shrunk = let pos = floor_pos S s valid in omega (arith, length-drop (max (floor_of S s) (n + 1) - (dataset S s).floor) (dataset S s).versions)

  pub latest_same : (t : ℕ) → latest_of (delete S s n) t ≡ latest_of S t
  latest_same t = ⊎_elim
      (λ here. ap latest_in here.1 ∙ latest_shrunk ∙ ap (λ (u : ℕ). latest_of S u) (sym here.0))
      (λ there. ap latest_in there.1)
      (at_set t)

  version_fewer : (v : ℕ) (j : KeptVersion) → version_in shrunk v ≡ Some j → version_of S s v ≡ Some j
  version_fewer v j is = by_test (nat_lt v (max (floor_of S s) (n + 1))) refl is
    where
      by_test : (b : Bool) → nat_lt v (max (floor_of S s) (n + 1)) ≡ b → cond b None (slice_get (drop (max (floor_of S s) (n + 1) - (dataset S s).floor) (dataset S s).versions) (v - max (floor_of S s) (n + 1))) ≡ Some j → version_of S s v ≡ Some j
      by_test true t e = absurd (let clash : ◌≡◌ {A = Option KeptVersion} None (Some j) = e in cc)
      by_test false t e =
          let high : max (floor_of S s) (n + 1) ≤ v = grind (arith, nat_tests) in
          sym (own_version (dataset S s) (max (floor_of S s) (n + 1)) v (omega arith) high) ∙ is

  -- a version after the deletion was there
  pub version_was : (t v : ℕ) (j : KeptVersion) → version_of (delete S s n) t v ≡ Some j → version_of S t v ≡ Some j
  version_was t v j is = ⊎_elim
      (λ here. ap (λ (u : ℕ). version_of S u v) here.0 ∙ version_fewer v j (ap (λ (d : Dataset). version_in d v) (sym here.1) ∙ is))
      (λ there. ap (λ (d : Dataset). version_in d v) (sym there.1) ∙ is)
      (at_set t)

  pub bytes_same : (t v : ℕ) (j : KeptVersion) → version_of (delete S s n) t v ≡ Some j → bytes_of (delete S s n) t v ≡ bytes_of S t v
  bytes_same t v j is =
      let rows = rows_of (delete S s n) t v j (λ r. has r.id (row_ids (all_rows (delete S s n).datasets)) ≡ true) (has_all (all_rows (delete S s n).datasets) (all_rows (delete S s n).datasets) (λ k h. h)) is in
      ap (λ (o : Option KeptVersion). option_map_or (λ k. row_bytes (delete S s n).containers k.rows) o []) is
      ∙ row_bytes-kept (named (delete S s n)) S.containers j.rows (λ k h. has-set_of k (row_ids (all_rows (delete S s n).datasets)) ∙ all_has (row_ids (all_rows (delete S s n).datasets)) j.rows rows k h)
      ∙ sym (ap (λ (o : Option KeptVersion). option_map_or (λ k. row_bytes S.containers k.rows) o []) (version_was t v j is))

  module _ (m : Blobs) (stands : Stands m S) where
    recipes_at : (t v : ℕ) → t < length S.datasets → (o : Option KeptVersion) → version_of (delete S s n) t v ≡ o → IfSome o (λ j. IsRecipeBlob (delete S s n) t v j (fin.get (with_blob m (floor_name s) (Some (floor_bytes s (max (floor_of S s) (n + 1))))) (recipe_name t v)))
    recipes_at t v in_range None is = tt
    recipes_at t v in_range (Some j) is =
        let was : IsRecipeBlob S t v j (fin.get m (recipe_name t v)) = subst (λ (o : Option KeptVersion). IfSome o (λ j. IsRecipeBlob S t v j (fin.get m (recipe_name t v)))) (version_was t v j is) (stands.recipes t v in_range) in
        subst (λ (b : Option (List ℕ)). IsRecipeBlob (delete S s n) t v j b) (sym (get_other m (floor_name s) (Some (floor_bytes s (max (floor_of S s) (n + 1)))) (recipe_name t v) (recipe_no_floor t v s)))
        (⊎_elim (λ two. inl two) (λ one. inr (one.0, one.1 ∙ ap fp (sym (bytes_same t v j is)))) was)

    floor_at : (t : ℕ) → t < length S.datasets → IsFloorBlob t (floor_of (delete S s n) t) (fin.get (with_blob m (floor_name s) (Some (floor_bytes s (max (floor_of S s) (n + 1))))) (floor_name t))
    floor_at t in_range = ⊎_elim
        (λ here. inl (get_is m (floor_name s) (Some (floor_bytes s (max (floor_of S s) (n + 1)))) (floor_name t) (ap floor_name here.0)
        ∙ ap (λ (f : ℕ). Some (floor_bytes s f)) (sym (ap (λ (d : Dataset). d.floor) here.1)) ∙ ap (λ (u : ℕ). Some (floor_bytes u (floor_of (delete S s n) t))) (sym here.0)))
        (λ there. subst (λ (b : Option (List ℕ)). IsFloorBlob t (floor_of (delete S s n) t) b)
        (sym (get_other m (floor_name s) (Some (floor_bytes s (max (floor_of S s) (n + 1)))) (floor_name t) (λ same. there.0 (ap (λ (q : Name). q.number) same))))
        (subst (λ (f : ℕ). IsFloorBlob t f (fin.get m (floor_name t))) (sym (ap (λ (d : Dataset). d.floor) there.1)) (stands.floors t in_range)))
        (at_set t)

    -- with the floor, blobs that stand for the state stand for the deletion
    pub shrunk_stands : Stands (with_blob m (floor_name s) (Some (floor_bytes s (max (floor_of S s) (n + 1))))) (delete S s n)
    shrunk_stands = record {
      floors = λ t in_range. floor_at t (omega (arith, sets_same));
      recipes = λ t v in_range. recipes_at t v (omega (arith, sets_same)) (version_of (delete S s n) t v) refl;
      containers = λ c among. keeps_container m (floor_name s) (Some (floor_bytes s (max (floor_of S s) (n + 1)))) c
          (λ same. floor_no_table s c.table.id (sym same)) (λ same. floor_no_payload s c.table.id (sym same))
          (stands.containers c (filter_within (λ c. has c.table.id (named (delete S s n))) S.containers c among));
      newest = λ t v in_range later last.
          get_other m (floor_name s) (Some (floor_bytes s (max (floor_of S s) (n + 1)))) (recipe_name t v) (recipe_no_floor t v s)
          ∙ stands.newest t v (omega (arith, sets_same)) (omega (arith, latest_same t)) last;
    }

  pub delete_changes : Changes S (delete_change s n S)
  delete_changes c stands = shrunk_stands c stands

  -- what the deletion needs was needed
  pub needed_was : (more : List Container) (q : Name) → IsNeeded (delete S s n) more q → IsNeeded S more q
  needed_was more q (inl is) = inl (record {
    container = is.container;
    among = ⊎_elim
        (λ here. Contains-append_left S.containers more is.container (filter_within (λ c. has c.table.id (named (delete S s n))) S.containers is.container here))
        (λ there. Contains-append_right S.containers more is.container there)
        (Contains-append_cases (delete S s n).containers more is.container is.among);
    is = is.is;
  })
  needed_was more q (inr (inl is)) = inr (inl (record { set = is.set; version = is.version; in_range = omega (arith, sets_same, is.in_range); kept = was (version_of (delete S s n) is.set is.version) refl is.kept; is = is.is }))
    where
      was : (o : Option KeptVersion) → version_of (delete S s n) is.set is.version ≡ o → IsSome o → IsSome (version_of S is.set is.version)
      was (Some j) e some = subst (λ (o : Option KeptVersion). IsSome o) (sym (version_was is.set is.version j e)) refl
      was None e some = absurd (let f : ◌≡◌ {A = Option KeptVersion} None None = refl in cc)
  needed_was more q (inr (inr is)) = inr (inr (record { set = is.set; in_range = omega (arith, sets_same, is.in_range); is = is.is }))

  pub is_delete : IsValid (delete S s n) → IsChange S s (delete_change s n S)
  is_delete shrunk_too = record {
    in_range = below;
    kind = inr (refl, λ needed. next_unneeded S [] s valid (needed_was [] _ needed));
    containers = λ c among. inl (filter_within (λ c. has c.table.id (named (delete S s n))) S.containers c among);
    sets = sets_same;
    valid = shrunk_too;
  }

-- a deletion, behind the floor's write

module _ (K : Core) (s n : ℕ) (strays : List Name) (valid : IsValid K.state) (below : s < length K.state.datasets) (low : n < latest_of K.state s) (no_job : K.job ≡ None)
    (covered : (q : Name) → IsNeeded K.state (pinned_containers K.pins) q → IsNeeded (delete K.state s n) (pinned_containers K.pins) q ⊎ Contains strays q)
    (more : (q : Name) → Contains K.strays q → Contains strays q)
    (apart : (q : Name) → Contains strays q → IsNeeded (delete K.state s n) (pinned_containers K.pins) q → ⊥) where
  pub delete_held : (m : Blobs) → Stands m K.state → Held m K → Held (with_blob m (floor_name s) (Some (floor_bytes s (max (floor_of K.state s) (n + 1))))) (after_delete s n strays K)
  delete_held m stands held = record {
    near = inl (shrunk_stands K.state s n valid below low m stands);
    containers = λ c among. keeps_container m (floor_name s) (Some (floor_bytes s (max (floor_of K.state s) (n + 1)))) c
        (λ same. floor_no_table s c.table.id (sym same)) (λ same. floor_no_payload s c.table.id (sym same)) (held.containers c among);
    others = λ q there. ⊎_elim
        (λ (same : q ≡ floor_name s). inl (subst (λ (q : Name). IsNeeded (delete K.state s n) (pinned_containers K.pins) q) (sym same) (needs_floor (delete K.state s n) (pinned_containers K.pins) s (omega (arith, sets_same K.state s n valid below low)))))
        (λ kept. ⊎_elim (covered q) (λ stray. inr (more q stray)) (held.others q (subst (λ (b : Option (List ℕ)). IsSome b) kept there)))
        (written_or_other m (floor_name s) (Some (floor_bytes s (max (floor_of K.state s) (n + 1)))) q);
    apart = apart;
  }

  -- each of the strays may be taken out
  pub delete_cleans : CanClean (after_delete s n strays K)
  delete_cleans q stray = (
    record { free = record { unneeded = λ needed. apart q stray (needs_beside (delete K.state s n) (pinned_containers K.pins) q needed); newest = λ t v in_range later last is. refl }; beside = tt },
    λ put. no_put K.job no_job put,
  )
    where
      no_put : (o : Option Job) → o ≡ None → IsContainerName (put_by o) q → ⊥
      no_put None is put = omega (arith, put.among.1)
      no_put (Some j) is put = absurd (let e : ◌≡◌ {A = Option Job} (Some j) None = is in cc)

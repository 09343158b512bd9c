-- The names that go with a deletion.
use Rattle.std.proofs.Common.{◌≡◌, ◌≢◌, ◌⊎◌, inl, inr, ⊎_elim, ℕ, ◌<◌, ◌≤◌, ◌+◌, max, length, Bool, true, false, ◌&&◌, not, List, Option, Some, None, refl, sym, ◌∙◌, ap, subst, arith}
use Rattle.std.specs.Prelude.{Contains, IsSome, nat_lt}
use Rattle.std.proofs.lemmas.Bool.Decides.{nat_tests}
use Rattle.std.proofs.lemmas.List.Elements.{Contains-append_cases}
use Rattle.vault_types.specs.declared.Name.{Name}
use Rattle.vault_types.specs.declared.Pending.TheVariants.{Not}
use Rattle.vault_types.specs.Lists.{has}
use Rattle.vault_types.specs.Tables.{Container, id_of}
use Rattle.vault_types.specs.State.{State, KeptVersion, latest_of, floor_of, version_of, named, IsValid}
use Rattle.vault_types.specs.Blobs.{floor_bytes}
use Rattle.vault_types.specs.Delete.{delete, reclaimed_ids}
use Rattle.vault_types.specs.Shelf.{Blobs, with_blob, table_name, payload_name, recipe_name, floor_name}
use Rattle.vault_types.specs.Events.{Core, Change, pinned_containers, IsNeeded, Held, IsNear, after_delete}
use Rattle.vault_traits.specs.Shelf.{blobs_with}
use Rattle.state_laws.specs.Parts.{HeldIfTold, CanClean}
use Rattle.state_laws.proofs.Standing.{needs_container, needs_pinned, needs_recipe, container_name}
use Rattle.state_laws.proofs.Changing.{version_high, version_low, latest_low, recipe_same, recipe_no_floor, recipe_no_table, recipe_no_payload, floor_no_table, floor_no_payload, told_same, told_more}
use Rattle.state_laws.proofs.Growing.{floor_pos, same_or_not}
use Rattle.deletion_laws.specs.Deleting.{pinned_ids, Deletes, AreApart, IsGone, IsGoneRecipe, IsGoneContainer, AreStraysAfter}
use Rattle.state_laws.proofs.Members.{clash, of_map, in_map, has-filter, filter_contains, filter_passed}
use Rattle.state_laws.proofs.Shrinking.{sets_same, floor_new, needed_was}
use Rattle.deletion_laws.proofs.Keeping.{container_named, delete_valid, delete_same}
use Rattle.deletion_laws.proofs.Marking.{version_stays}
use Rattle.deletion_laws.proofs.Steps.{deleted_held, deleted_cleans}

kept_of : (o : Option KeptVersion) → IsSome o → (k : KeptVersion) × (o ≡ Some k)
kept_of (Some k) some = (k, refl)
kept_of None some = absurd (let e : ◌≡◌ {A = Option KeptVersion} None None = refl in cc)

payload_no_table : (i j : ℕ) → payload_name i ≢ table_name j
payload_no_table i j same = let kinds = ap (λ (n : Name). n.kind) same in cc

-- the names of containers tell their ids
pub same_id : (q : Name) (i j : ℕ) → (q ≡ table_name i) ⊎ (q ≡ payload_name i) → (q ≡ table_name j) ⊎ (q ≡ payload_name j) → i ≡ j
same_id q i j (inl a) (inl b) = ap (λ (n : Name). n.number) (sym a ∙ b)
same_id q i j (inl a) (inr b) = absurd (payload_no_table j i (sym b ∙ a))
same_id q i j (inr a) (inl b) = absurd (payload_no_table i j (sym a ∙ b))
same_id q i j (inr a) (inr b) = ap (λ (n : Name). n.number) (sym a ∙ b)

-- the name of a container is not that of a recipe, nor of a floor

pub no_recipe : (q : Name) (i s v : ℕ) → (q ≡ table_name i) ⊎ (q ≡ payload_name i) → q ≡ recipe_name s v → ⊥
no_recipe q i s v (inl a) is = recipe_no_table s v i (sym is ∙ a)
no_recipe q i s v (inr a) is = recipe_no_payload s v i (sym is ∙ a)

pub no_floor : (q : Name) (i s : ℕ) → (q ≡ table_name i) ⊎ (q ≡ payload_name i) → q ≡ floor_name s → ⊥
no_floor q i s (inl a) is = floor_no_table s i (sym is ∙ a)
no_floor q i s (inr a) is = floor_no_payload s i (sym is ∙ a)

pub name_at : (q : Name) (i j : ℕ) → i ≡ j → (q ≡ table_name i) ⊎ (q ≡ payload_name i) → (q ≡ table_name j) ⊎ (q ≡ payload_name j)
name_at q i j same is = subst (λ (k : ℕ). (q ≡ table_name k) ⊎ (q ≡ payload_name k)) same is

below_or_not : (v w : ℕ) → (v < w) ⊎ (w ≤ v)
below_or_not v w = step (nat_lt v w) refl
  where
    step : (b : Bool) → nat_lt v w ≡ b → (v < w) ⊎ (w ≤ v)
    step true e = inl (let h : v < w = grind (arith, nat_tests) in h)
    step false e = inr (let h : w ≤ v = grind (arith, nat_tests) in h)

module _ (K : Core) (s n : ℕ) (strays : List Name) (valid : IsValid K.state) (below : s < length K.state.datasets) (low : n < latest_of K.state s) (are : AreStraysAfter K s n strays) where
  abbrev S : State
  S = K.state

  abbrev after : State
  after = delete K.state s n

  abbrev pinned : List Container
  pinned = pinned_containers K.pins

  reclaimed_is : (c : Container) → Contains S.containers c → has c.table.id (named after) ≡ false → has c.table.id (reclaimed_ids S after) ≡ true
  reclaimed_is c there none = has-filter c.table.id (λ k. not (has k (named after))) (named S) ∙ ap (λ (b : Bool). not b && has c.table.id (named S)) none ∙ container_named S valid c there

  -- what was needed is needed, or goes
  container_covered : (q : Name) (c : Container) → Contains S.containers c → (q ≡ table_name c.table.id) ⊎ (q ≡ payload_name c.table.id) → IsNeeded after pinned q ⊎ Contains strays q
  container_covered q c there is = by_name (has c.table.id (named after)) refl
    where
      by_pin : has c.table.id (named after) ≡ false → (b : Bool) → has c.table.id (pinned_ids K.pins) ≡ b → IsNeeded after pinned q ⊎ Contains strays q
      by_pin none true e = let d = of_map id_of pinned c.table.id e in inl (needs_pinned after pinned q (container_name pinned d.0 d.1 q (name_at q c.table.id d.0.table.id (sym d.2) is)))
      by_pin none false e = inr (are.gone q (inr (record { id = c.table.id; reclaimed = reclaimed_is c there none; unpinned = e; is = is })))

      by_name : (b : Bool) → has c.table.id (named after) ≡ b → IsNeeded after pinned q ⊎ Contains strays q
      by_name true e = inl (needs_container after pinned q (container_name after.containers c (filter_contains (λ (d : Container). has d.table.id (named after)) S.containers c there e) q is))
      by_name false e = by_pin e (has c.table.id (pinned_ids K.pins)) refl

  recipe_covered : (t v : ℕ) (k : KeptVersion) → t < length S.datasets → version_of S t v ≡ Some k → IsNeeded after pinned (recipe_name t v) ⊎ Contains strays (recipe_name t v)
  recipe_covered t v k in_range is = ⊎_elim
      (λ same. ⊎_elim
      (λ (less : v < max (floor_of S s) (n + 1)). inr (are.gone (recipe_name t v) (inl (record { version = v; kept = subst (λ (u : ℕ). floor_of S u ≤ v) same (version_low S t v k is); below = less; is = ap (λ (u : ℕ). recipe_name u v) same }))))
      (λ high. stays (inr high))
      (below_or_not v (max (floor_of S s) (n + 1))))
      (λ other. stays (inl other))
      (same_or_not t s)
    where
      stays : (t ≢ s) ⊎ (max (floor_of S s) (n + 1) ≤ v) → IsNeeded after pinned (recipe_name t v) ⊎ Contains strays (recipe_name t v)
      stays may = inl (needs_recipe after pinned t v k (omega (arith, sets_same S s n valid below low)) (version_stays S s n valid below low t v may ∙ is))

  covered : (q : Name) → IsNeeded S pinned q → IsNeeded after pinned q ⊎ Contains strays q
  covered q (inl is) = ⊎_elim
      (λ there. container_covered q is.container there is.is)
      (λ there. inl (needs_pinned after pinned q (container_name pinned is.container there q is.is)))
      (Contains-append_cases S.containers pinned is.container is.among)
  covered q (inr (inl is)) =
      let k = kept_of (version_of S is.set is.version) is.kept in
      subst (λ (q : Name). IsNeeded after pinned q ⊎ Contains strays q) (sym is.is) (recipe_covered is.set is.version k.0 is.in_range k.1)
  covered q (inr (inr is)) = inl (inr (inr (record { set = is.set; in_range = omega (arith, sets_same S s n valid below low, is.in_range); is = is.is })))

  -- what goes is not needed
  recipe_unneeded : (q : Name) → IsGoneRecipe K s n q → IsNeeded after pinned q → ⊥
  recipe_unneeded q g (inl is) = no_recipe q is.container.table.id s g.version is.is g.is
  recipe_unneeded q g (inr (inl is)) =
      let k = kept_of (version_of after is.set is.version) is.kept in
      let one = latest_low S s valid in
      let two = latest_low after is.set (delete_valid S s n valid below low) in
      let high = version_high after is.set is.version k.0 k.1 in
      let least = version_low after is.set is.version k.0 k.1 in
      let pos = floor_pos S s valid in
      let under = g.below in
      let same = recipe_same s g.version is.set is.version (omega arith) (omega arith) (sym g.is ∙ is.is) in
      let f : floor_of after is.set ≡ max (floor_of S s) (n + 1) = ap (λ (t : ℕ). floor_of after t) (sym same.0) ∙ floor_new S s n valid below low in
      omega (arith, same.1)
  recipe_unneeded q g (inr (inr is)) = recipe_no_floor s g.version is.set (sym g.is ∙ is.is)

  container_unneeded : (q : Name) → IsGoneContainer K s n q → IsNeeded after pinned q → ⊥
  container_unneeded q g (inl is) = ⊎_elim
      (λ there. clash (has g.id (named after)) (subst (λ (k : ℕ). has k (named after) ≡ true) (sym id) (filter_passed (λ (d : Container). has d.table.id (named after)) S.containers is.container there)) unnamed)
      (λ there. clash (has g.id (pinned_ids K.pins)) (subst (λ (k : ℕ). has k (pinned_ids K.pins) ≡ true) (sym id) (in_map id_of pinned is.container there)) g.unpinned)
      (Contains-append_cases after.containers pinned is.container is.among)
    where
      id : g.id ≡ is.container.table.id
      id = same_id q g.id is.container.table.id g.is is.is

      not_named : (a b : Bool) → (not a && b) ≡ true → a ≡ false
      not_named false b e = refl
      not_named true b e = absurd (let c : false ≡ true = e in cc)

      unnamed : has g.id (named after) ≡ false
      unnamed = not_named (has g.id (named after)) (has g.id (named S)) (sym (has-filter g.id (λ k. not (has k (named after))) (named S)) ∙ g.reclaimed)
  container_unneeded q g (inr (inl is)) = no_recipe q g.id is.set is.version g.is is.is
  container_unneeded q g (inr (inr is)) = no_floor q g.id is.set g.is is.is

  -- the deletion with the names that go among the strays
  pub deletes : (floor : ℕ) → floor ≡ max (floor_of K.state s) (n + 1) → K.job ≡ None → K.other ≡ None → AreApart K → Deletes K s n floor strays
  deletes floor floor_is no_job alone apart = record {
    valid = valid;
    in_range = below;
    low = low;
    new_floor = floor_is;
    no_job = no_job;
    alone = alone;
    covered = covered;
    more = are.before;
    apart = λ q stray needed. ⊎_elim
        (λ old. apart q old (needed_was S s n valid below low pinned q needed))
        (λ goes. ⊎_elim (λ g. recipe_unneeded q g needed) (λ g. container_unneeded q g needed) goes)
        (are.only q stray);
  }

  -- behind the floor's write, where blobs are told
  pub told_deleted : (floor : ℕ) → floor ≡ max (floor_of K.state s) (n + 1) → K.job ≡ None → K.other ≡ None → (b now : Option Blobs) → now ≡ blobs_with b (floor_name s) (Some (floor_bytes s floor)) → HeldIfTold b K → HeldIfTold now (after_delete s n strays K)
  told_deleted floor floor_is no_job alone None now is held = told_same (λ m. Held m (after_delete s n strays K)) None now is tt
  told_deleted floor floor_is no_job alone (Some m) now is held = told_same (λ m. Held m (after_delete s n strays K)) (Some (with_blob m (floor_name s) (Some (floor_bytes s floor)))) now is
      (deleted_held K s n floor strays (deletes floor floor_is no_job alone held.apart) m held)

  -- each stray behind it may be taken out
  pub told_cleans : K.job ≡ None → K.other ≡ None → (b : Option Blobs) → HeldIfTold b K → IsSome b → CanClean (after_delete s n strays K)
  told_cleans no_job alone None held tells = absurd (let e : ◌≡◌ {A = Option Blobs} None None = refl in cc)
  told_cleans no_job alone (Some m) held tells = deleted_cleans K s n (max (floor_of K.state s) (n + 1)) strays (deletes (max (floor_of K.state s) (n + 1)) refl no_job alone held.apart)

-- a floor that does not rise: nothing is written, and no name goes

module _ (K : Core) (s n : ℕ) (valid : IsValid K.state) (even : n + 1 ≤ floor_of K.state s) where
  pub none_goes : (q : Name) → IsGone K s n q → ⊥
  none_goes q (inl g) = omega (arith, g.kept, g.below)
  none_goes q (inr g) = step (has g.id (named K.state)) (sym (has-filter g.id (λ k. not (has k (named K.state))) (named K.state)) ∙ ap (λ (T : State). has g.id (reclaimed_ids K.state T)) (sym (delete_same K.state s n valid even)) ∙ g.reclaimed)
    where
      step : (a : Bool) → (not a && a) ≡ true → ⊥
      step true e = let c : false ≡ true = e in cc
      step false e = let c : false ≡ true = e in cc

  pub same_strays : AreStraysAfter K s n K.strays
  same_strays = record { only = λ q there. inl there; before = λ q there. there; gone = λ q g. absurd (none_goes q g) }

  same_held : K.other ≡ None → (m : Blobs) → Held m K → Held m (after_delete s n K.strays K)
  same_held alone m held = subst (λ (T : State). Held m (record { state = T; other = None; pins = K.pins; strays = K.strays; job = K.job; pending = Not })) (sym (delete_same K.state s n valid even))
      (record { near = subst (λ (o : Option Change). IsNear K.state o m) alone held.near; containers = held.containers; others = held.others; apart = held.apart })

  pub held_same : K.other ≡ None → (strays : List Name) → strays ≡ K.strays → (m : Blobs) → Held m K → Held m (after_delete s n strays K)
  held_same alone strays is m held = subst (λ (l : List Name). Held m (after_delete s n l K)) (sym is) (same_held alone m held)

  pub told_deleted_same : K.other ≡ None → (strays : List Name) → strays ≡ K.strays → (b : Option Blobs) → HeldIfTold b K → HeldIfTold b (after_delete s n strays K)
  told_deleted_same alone strays is b held = told_more (λ m. Held m K) (λ m. Held m (after_delete s n strays K)) b (held_same alone strays is) held

  pub told_cleans_same : s < length K.state.datasets → n < latest_of K.state s → K.job ≡ None → K.other ≡ None → (strays : List Name) → strays ≡ K.strays → (b : Option Blobs) → HeldIfTold b K → IsSome b → CanClean (after_delete s n strays K)
  told_cleans_same below low no_job alone strays is b held tells = subst (λ (l : List Name). CanClean (after_delete s n l K)) (sym is) (told_cleans K s n K.strays valid below low same_strays no_job alone b held tells)

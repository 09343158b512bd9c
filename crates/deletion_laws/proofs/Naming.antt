-- The lists of the names that go.
use Rattle.std.proofs.Common.{◌≡◌, ◌⊎◌, inl, inr, ⊎_elim, ℕ, zero, suc, ◌<◌, ◌≤◌, ◌+◌, ◌-◌, max, Bool, true, false, ◌&&◌, not, List, [], ◌∷◌, ◌++◌, refl, sym, ◌∙◌, ap, subst, arith}
use Rattle.std.specs.Prelude.{Contains}
use Rattle.std.proofs.lemmas.List.Elements.{Contains-append_left, Contains-append_right, Contains-append_cases}
use Rattle.vault_types.specs.declared.Name.{Name}
use Rattle.vault_types.specs.Lists.{has}
use Rattle.vault_types.specs.State.{floor_of}
use Rattle.vault_types.specs.Delete.{delete, reclaimed_ids}
use Rattle.vault_types.specs.Shelf.{table_name, payload_name, recipe_name}
use Rattle.vault_types.specs.Events.{Core}
use Rattle.deletion_laws.specs.Deleting.{pinned_ids, recipe_names, container_names, IsGone, AreStraysAfter}
use Rattle.deletion_laws.specs.Releasing.{is_released, AreStraysReleased}
use Rattle.state_laws.proofs.Members.{here, later, no_member, first_or_rest, has_contained, contained}

-- the names of versions

pub of_recipes : (s first count : ℕ) (q : Name) → Contains (recipe_names s first count) q → (v : ℕ) × (first ≤ v) × (v < first + count) × (q ≡ recipe_name s v)
of_recipes s first zero q there = absurd (no_member q there)
of_recipes s first (suc n) q there = ⊎_elim
    (λ (is : recipe_name s first ≡ q). (first, omega arith, omega arith, sym is))
    (λ rest. let r = of_recipes s (first + 1) n q rest in (r.0, omega (arith, r.1), omega (arith, r.2), r.3))
    (first_or_rest (recipe_name s first) (recipe_names s (first + 1) n) q there)

pub in_recipes : (s first count v : ℕ) → first ≤ v → v < first + count → Contains (recipe_names s first count) (recipe_name s v)
in_recipes s first zero v low high = absurd (omega arith)
in_recipes s first (suc n) v low high = ⊎_elim
    (λ (is : first ≡ v). subst (λ (u : ℕ). Contains (recipe_name s first ∷ recipe_names s (first + 1) n) (recipe_name s u)) is (here (recipe_name s first) (recipe_names s (first + 1) n)))
    (λ (above : first + 1 ≤ v). later (recipe_name s first) (recipe_names s (first + 1) n) (recipe_name s v) (in_recipes s (first + 1) n v above (omega arith)))
    (same_or_above first v low)
  where
    same_or_above : (a b : ℕ) → a ≤ b → (a ≡ b) ⊎ (a + 1 ≤ b)
    same_or_above zero zero h = inl refl
    same_or_above zero (suc b) h = inr (omega arith)
    same_or_above (suc a) zero h = absurd (omega arith)
    same_or_above (suc a) (suc b) h = ⊎_elim (λ e. inl (ap suc e)) (λ l. inr (omega arith)) (same_or_above a b (omega arith))

-- the names of containers

pub of_containers : (ids : List ℕ) (q : Name) → Contains (container_names ids) q → (id : ℕ) × Contains ids id × ((q ≡ table_name id) ⊎ (q ≡ payload_name id))
of_containers [] q there = absurd (no_member q there)
of_containers (id ∷ ids) q there = ⊎_elim
    (λ (is : payload_name id ≡ q). (id, here id ids, inr (sym is)))
    (λ more. ⊎_elim
    (λ (is : table_name id ≡ q). (id, here id ids, inl (sym is)))
    (λ rest. let r = of_containers ids q rest in (r.0, later id ids r.0 r.1, r.2))
    (first_or_rest (table_name id) (container_names ids) q more))
    (first_or_rest (payload_name id) (table_name id ∷ container_names ids) q there)

pub in_containers : (ids : List ℕ) (id : ℕ) (q : Name) → Contains ids id → (q ≡ table_name id) ⊎ (q ≡ payload_name id) → Contains (container_names ids) q
in_containers [] id q there is = absurd (no_member id there)
in_containers (i ∷ ids) id q there is = ⊎_elim
    (λ (same : i ≡ id). ⊎_elim
    (λ (table : q ≡ table_name id). later (payload_name i) (table_name i ∷ container_names ids) q (subst (λ (n : Name). Contains (table_name i ∷ container_names ids) n) (ap table_name same ∙ sym table) (here (table_name i) (container_names ids))))
    (λ (payload : q ≡ payload_name id). subst (λ (n : Name). Contains (payload_name i ∷ (table_name i ∷ container_names ids)) n) (ap payload_name same ∙ sym payload) (here (payload_name i) (table_name i ∷ container_names ids)))
    is)
    (λ rest. later (payload_name i) (table_name i ∷ container_names ids) q (later (table_name i) (container_names ids) q (in_containers ids id q rest is)))
    (first_or_rest i ids id there)

-- the strays of a deletion, as they are listed

module _ (K : Core) (s n : ℕ) (ids : List ℕ) (are : (id : ℕ) → has id ids ≡ (has id (reclaimed_ids K.state (delete K.state s n)) && not (has id (pinned_ids K.pins)))) where
  both : (a b : Bool) → (a && not b) ≡ true → (a ≡ true) × (b ≡ false)
  both true false h = (refl, refl)
  both true true h = absurd (let e : false ≡ true = h in cc)
  both false b h = absurd (let e : false ≡ true = h in cc)

  names : List Name
  names = recipe_names s (floor_of K.state s) (max (floor_of K.state s) (n + 1) - floor_of K.state s) ++ container_names ids

  goes : (q : Name) → Contains names q → IsGone K s n q
  unfolding names
  goes q there = ⊎_elim
      (λ recipe. let r = of_recipes s (floor_of K.state s) (max (floor_of K.state s) (n + 1) - floor_of K.state s) q recipe in inl (record { version = r.0; kept = r.1; below = omega (arith, r.2); is = r.3 }))
      (λ container. let c = of_containers ids q container in
      let t = both (has c.0 (reclaimed_ids K.state (delete K.state s n))) (has c.0 (pinned_ids K.pins)) (sym (are c.0) ∙ has_contained ids c.0 c.1) in
      inr (record { id = c.0; reclaimed = t.0; unpinned = t.1; is = c.2 }))
      (Contains-append_cases (recipe_names s (floor_of K.state s) (max (floor_of K.state s) (n + 1) - floor_of K.state s)) (container_names ids) q there)

  listed_gone : (q : Name) → IsGone K s n q → Contains names q
  unfolding names
  listed_gone q (inl g) = Contains-append_left (recipe_names s (floor_of K.state s) (max (floor_of K.state s) (n + 1) - floor_of K.state s)) (container_names ids) q
      (subst (λ (m : Name). Contains (recipe_names s (floor_of K.state s) (max (floor_of K.state s) (n + 1) - floor_of K.state s)) m) (sym g.is) (in_recipes s (floor_of K.state s) (max (floor_of K.state s) (n + 1) - floor_of K.state s) g.version g.kept (omega (arith, g.below))))
  listed_gone q (inr g) = Contains-append_right (recipe_names s (floor_of K.state s) (max (floor_of K.state s) (n + 1) - floor_of K.state s)) (container_names ids) q
      (in_containers ids g.id q (contained ids g.id (are g.id ∙ ap (λ (b : Bool). b && not (has g.id (pinned_ids K.pins))) g.reclaimed ∙ ap (λ (b : Bool). not b) g.unpinned)) g.is)

  pub strays_after : (strays : List Name) → strays ≡ K.strays ++ (recipe_names s (floor_of K.state s) (max (floor_of K.state s) (n + 1) - floor_of K.state s) ++ container_names ids) → AreStraysAfter K s n strays
  unfolding names
  strays_after strays is = record {
    only = λ q there. ⊎_elim (λ old. inl old) (λ new. inr (goes q new)) (Contains-append_cases K.strays names q (subst (λ (l : List Name). Contains l q) is there));
    before = λ q there. subst (λ (l : List Name). Contains l q) (sym is) (Contains-append_left K.strays names q there);
    gone = λ q g. subst (λ (l : List Name). Contains l q) (sym is) (Contains-append_right K.strays names q (listed_gone q g));
  }

-- the strays of a release, as they are listed
pub strays_released : (K : Core) (number : ℕ) (ids : List ℕ) → ((id : ℕ) → has id ids ≡ is_released K number id) → (strays : List Name) → strays ≡ K.strays ++ container_names ids → AreStraysReleased K number strays
strays_released K number ids are strays is = record {
  only = λ q there. ⊎_elim (λ old. inl old)
      (λ new. let c = of_containers ids q new in inr (record { id = c.0; released = sym (are c.0) ∙ has_contained ids c.0 c.1; is = c.2 }))
      (Contains-append_cases K.strays (container_names ids) q (subst (λ (l : List Name). Contains l q) is there));
  before = λ q there. subst (λ (l : List Name). Contains l q) (sym is) (Contains-append_left K.strays (container_names ids) q there);
  gone = λ q g. subst (λ (l : List Name). Contains l q) (sym is) (Contains-append_right K.strays (container_names ids) q (in_containers ids g.id q (contained ids g.id (are g.id ∙ g.released)) g.is));
}

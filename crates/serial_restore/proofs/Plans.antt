-- Plans: what their steps load, what their fronts serve, and the requests of spots.
use Rattle.std.proofs.Common.{◌≡◌, ◌≢◌, ◌⊎◌, inl, inr, ⊎_elim, ℕ, zero, suc, ◌+◌, ◌≤◌, Bool, true, false, not, cond, IsTrue, ◌&&◌, nat_eq, ltb, List, [], ◌∷◌, ◌++◌, take, drop, length, filter, Option, Some, None, All, refl, sym, ap, subst, arith}
use Rattle.std.specs.Prelude.{Contains, ◌==◌}
use Rattle.std.specs.List.{AllByRecursion}
use Rattle.std.proofs.lemmas.Bool.{false≢true}
use Rattle.std.proofs.lemmas.List.{take-append-drop}
use Rattle.std.proofs.lemmas.List.Elements.{All-head, All-tail}
use Rattle.std.proofs.lemmas.List.Kept.{Contains-dedup_nat, Contains-from_dedup}
use Rattle.vault_types.specs.declared.Step.{Step}
use Rattle.vault_types.specs.declared.Step.TheVariants.{Load, Evict, Serve}
use Rattle.vault_types.specs.Lists.{has}
use Rattle.vault_types.specs.Plans.{requests, serves, loads, farthest, load_behind, rule_steps, rule_plan, IsLeast}
use Rattle.belady_cache.proofs.Steps.{loads_append, loads_cons, serves_load, serves_evict, serves_next}
use Rattle.commit_laws.proofs.Listing.{all_append, all_of, has_of, contains_of}
use Rattle.state_laws.proofs.Members.{here, later, first_or_rest, filter_within}
use Rattle.restore_assembler.specs.Copying.{Copying, next_load, wanted}
use Rattle.serial_restore.specs.Going.{IsLoadOf, IsAtMostLeast}

-- the rule's plan loads only what is requested

steps_of : (ids present : List ℕ) (q : ℕ) → has q ids ≡ true → (b : Bool) (o : Option ℕ) → AllByRecursion (IsLoadOf ids) (cond b (Serve ∷ [], present) (load_behind present q o)).0
steps_of ids present q h true o = (tt, tt)
steps_of ids present q h false None = (h, (tt, tt))
steps_of ids present q h false (Some e) = (tt, (h, (tt, tt)))

loads_of_rule : (ids : List ℕ) (slots : ℕ) (present reqs : List ℕ) → AllByRecursion (λ q. has q ids ≡ true) reqs → AllByRecursion (IsLoadOf ids) (rule_plan slots present reqs)
loads_of_rule ids slots present [] h = tt
loads_of_rule ids slots present (q ∷ reqs) h =
    all_append (IsLoadOf ids) (rule_steps slots present q reqs).0 (rule_plan slots (rule_steps slots present q reqs).1 reqs)
    (steps_of ids present q h.0 (has q present) (cond (ltb (length present) slots) None (farthest reqs present)))
    (loads_of_rule ids slots (rule_steps slots present q reqs).1 reqs h.1)

pub rule_loads : (ids : List ℕ) (slots : ℕ) (steps : List Step) → steps ≡ rule_plan slots [] (requests ids) → AllByRecursion (IsLoadOf ids) steps
rule_loads ids slots steps is = subst (λ (ss : List Step). AllByRecursion (IsLoadOf ids) ss) (sym is)
    (loads_of_rule ids slots [] (requests ids) (all_of (λ q. has q ids ≡ true) (requests ids) (λ q there. has_of q ids (Contains-from_dedup nat_eq ids q there))))

-- the next load

pub next_among : (ids : List ℕ) (steps : List Step) (id : ℕ) → AllByRecursion (IsLoadOf ids) steps → next_load steps ≡ Some id → has id ids ≡ true
next_among ids [] id all is = absurd (let e : ◌≡◌ {A = Option ℕ} None (Some id) = is in cc)
next_among ids (Load c ∷ steps) id all is = let e : c ≡ id = cc in subst (λ (n : ℕ). has n ids ≡ true) e all.0
next_among ids (Evict c ∷ steps) id all is = next_among ids steps id all.1 is
next_among ids (Serve ∷ steps) id all is = next_among ids steps id all.1 is

pub wanted_next : (s : Copying) (id : ℕ) → wanted s ≡ Some id → next_load s.steps ≡ Some id
wanted_next s id is = step (ltb s.done (length s.spots)) is
  where
    step : (b : Bool) → cond b (next_load s.steps) None ≡ Some id → next_load s.steps ≡ Some id
    step true e = e
    step false e = absurd (let f : ◌≡◌ {A = Option ℕ} None (Some id) = e in cc)

pub wanted_loads : (s : Copying) (id : ℕ) → wanted s ≡ Some id → 1 ≤ loads s.steps
wanted_loads s id is = step s.steps (wanted_next s id is)
  where
    step : (steps : List Step) → next_load steps ≡ Some id → 1 ≤ loads steps
    step [] e = absurd (let f : ◌≡◌ {A = Option ℕ} None (Some id) = e in cc)
    step (Load c ∷ steps) e = let h = loads_cons (Load c) steps in omega (arith, h)
    step (Evict c ∷ steps) e = let h = loads_cons (Evict c) steps in let i = step steps e in omega (arith, h, i)
    step (Serve ∷ steps) e = let h = loads_cons Serve steps in let i = step steps e in omega (arith, h, i)

-- steps up to behind the next load

loads_left : (k : ℕ) (steps : List Step) → loads (drop k steps) ≤ loads steps
loads_left zero steps = omega arith
loads_left (suc k) [] = omega arith
loads_left (suc k) (s ∷ steps) = let h = loads_cons s steps in let i = loads_left k steps in omega (arith, h, i)

module _ (P : Step → Type 0) (evict : (e : ℕ) → P (Evict e)) (serve : P Serve) where
  none_loaded : (k : ℕ) (steps : List Step) → loads (drop k steps) ≡ loads steps → AllByRecursion P (take k steps)
  none_loaded zero steps same = tt
  none_loaded (suc k) [] same = tt
  none_loaded (suc k) (Load c ∷ steps) same = absurd (let h = loads_cons (Load c) steps in let i = loads_left k steps in let e : loads (drop k steps) ≡ loads (Load c ∷ steps) = same in omega (arith, h, i, e))
  none_loaded (suc k) (Evict c ∷ steps) same = (evict c, none_loaded k steps same)
  none_loaded (suc k) (Serve ∷ steps) same = (serve, none_loaded k steps same)

  pub one_loaded : (k : ℕ) (steps : List Step) (id : ℕ) → next_load steps ≡ Some id → P (Load id) → loads (drop k steps) + 1 ≡ loads steps → AllByRecursion P (take k steps)
  one_loaded zero steps id is load one = tt
  one_loaded (suc k) [] id is load one = tt
  one_loaded (suc k) (Load c ∷ steps) id is load one =
      let e : id ≡ c = cc in
      (subst (λ (n : ℕ). P (Load n)) e load, none_loaded k steps (let h = loads_cons (Load c) steps in let f : loads (drop k steps) + 1 ≡ loads (Load c ∷ steps) = one in omega (arith, h, f)))
  one_loaded (suc k) (Evict c ∷ steps) id is load one = (evict c, one_loaded k steps id is load one)
  one_loaded (suc k) (Serve ∷ steps) id is load one = (serve, one_loaded k steps id is load one)

pub loads_parts : (done steps next : List Step) (k : ℕ) → next ≡ drop k steps → loads next + 1 ≡ loads steps → loads (done ++ take k steps) ≡ loads done + 1
loads_parts done steps next k is one =
    let e : loads next ≡ loads (drop k steps) = ap loads is in
    let a = loads_append done (take k steps) in
    let b = loads_append (take k steps) (drop k steps) in
    let c : loads (take k steps ++ drop k steps) ≡ loads steps = ap loads (take-append-drop k steps) in
    omega (arith, e, a, b, c, one)

-- what serves

-- steps that serve nothing serve no request
serves_none : (slots : ℕ) (present : List ℕ) (steps : List Step) (reqs : List ℕ) → IsTrue (serves slots present steps reqs) → All (λ s. s ≢ Serve) steps → reqs ≡ []
serves_none slots present [] [] e none = refl
serves_none slots present [] (q ∷ reqs) e none = absurd (false≢true e)
serves_none slots present (Load c ∷ steps) reqs e none = serves_none slots (c ∷ present) steps reqs (serves_load slots c present steps reqs e).2 (All-tail (λ s. s ≢ Serve) (Load c) steps none)
serves_none slots present (Evict c ∷ steps) reqs e none = serves_none slots (filter (λ d. not (c == d)) present) steps reqs (serves_evict slots c present steps reqs e).1 (All-tail (λ s. s ≢ Serve) (Evict c) steps none)
serves_none slots present (Serve ∷ steps) reqs e none = absurd (All-head (λ s. s ≢ Serve) Serve steps none refl)

-- what is in front of such steps serves alone
pub front_serves : (slots : ℕ) (present : List ℕ) (done rest : List Step) (reqs : List ℕ) → IsTrue (serves slots present (done ++ rest) reqs) → All (λ s. s ≢ Serve) rest → IsTrue (serves slots present done reqs)
front_serves slots present [] rest reqs e none = subst (λ (qs : List ℕ). IsTrue (serves slots present [] qs)) (sym (serves_none slots present rest reqs e none)) refl
front_serves slots present (Load c ∷ done) rest reqs e none =
    let parts = serves_load slots c present (done ++ rest) reqs e in
    both (not (has c present) && ltb (length present) slots) (serves slots (c ∷ present) (done ++ rest) reqs) (serves slots (c ∷ present) done reqs) e (front_serves slots (c ∷ present) done rest reqs parts.2 none)
  where
    both : (a b d : Bool) → IsTrue (a && b) → IsTrue d → IsTrue (a && d)
    both true b d h i = i
    both false b d h i = h
front_serves slots present (Evict c ∷ done) rest reqs e none =
    let parts = serves_evict slots c present (done ++ rest) reqs e in
    both (has c present) (serves slots (filter (λ d. not (c == d)) present) (done ++ rest) reqs) (serves slots (filter (λ d. not (c == d)) present) done reqs) e (front_serves slots (filter (λ d. not (c == d)) present) done rest reqs parts.1 none)
  where
    both : (a b d : Bool) → IsTrue (a && b) → IsTrue d → IsTrue (a && d)
    both true b d h i = i
    both false b d h i = h
front_serves slots present (Serve ∷ done) rest [] e none = absurd (false≢true e)
front_serves slots present (Serve ∷ done) rest (q ∷ reqs) e none =
    let parts = serves_next slots q present (done ++ rest) reqs e in
    both (has q present) (serves slots present (done ++ rest) reqs) (serves slots present done reqs) e (front_serves slots present done rest reqs parts.1 none)
  where
    both : (a b d : Bool) → IsTrue (a && b) → IsTrue d → IsTrue (a && d)
    both true b d h i = i
    both false b d h i = h

-- each request was loaded, or was present
served_loaded : (slots : ℕ) (present : List ℕ) (steps : List Step) (reqs : List ℕ) → IsTrue (serves slots present steps reqs) → (q : ℕ) → Contains reqs q → Contains present q ⊎ Contains steps (Load q)
served_loaded slots present [] [] e q there = absurd (omega (arith, there.1))
served_loaded slots present [] (r ∷ reqs) e q there = absurd (false≢true e)
served_loaded slots present (Load c ∷ steps) reqs e q there = ⊎_elim
    (λ old. ⊎_elim (λ (same : c ≡ q). inr (subst (λ (n : ℕ). Contains (Load c ∷ steps) (Load n)) same (here (Load c) steps))) (λ more. inl more) (first_or_rest c present q old))
    (λ new. inr (later (Load c) steps (Load q) new))
    (served_loaded slots (c ∷ present) steps reqs (serves_load slots c present steps reqs e).2 q there)
served_loaded slots present (Evict c ∷ steps) reqs e q there = ⊎_elim
    (λ old. inl (filter_within (λ d. not (c == d)) present q old))
    (λ new. inr (later (Evict c) steps (Load q) new))
    (served_loaded slots (filter (λ d. not (c == d)) present) steps reqs (serves_evict slots c present steps reqs e).1 q there)
served_loaded slots present (Serve ∷ steps) [] e q there = absurd (false≢true e)
served_loaded slots present (Serve ∷ steps) (r ∷ reqs) e q there =
    let parts = serves_next slots r present steps reqs e in
    ⊎_elim
    (λ (same : r ≡ q). inl (contains_of q present (subst (λ (n : ℕ). has n present ≡ true) same parts.0)))
    (λ rest. ⊎_elim (λ old. inl old) (λ new. inr (later Serve steps (Load q) new)) (served_loaded slots present steps reqs parts.1 q rest))
    (first_or_rest r reqs q there)

-- each id that is requested was loaded
pub all_loaded : (slots : ℕ) (steps : List Step) (ids : List ℕ) → IsTrue (serves slots [] steps (requests ids)) → (id : ℕ) → Contains ids id → Contains steps (Load id)
all_loaded slots steps ids e id there = ⊎_elim (λ none. absurd (omega (arith, none.1))) (λ h. h) (served_loaded slots [] steps (requests ids) e id (Contains-dedup_nat ids id there))

-- the fewest loads

-- a front of the least plan that serves has all its loads
pub all_loads : (reqs : List ℕ) (slots n : ℕ) (steps done rest : List Step) → IsLeast reqs slots n → n ≡ loads steps → done ++ rest ≡ steps → IsTrue (serves slots [] done reqs) → n ≡ loads done
all_loads reqs slots n steps done rest least is parts served =
    let a = least.least done served in
    let b = loads_append done rest in
    let c : loads (done ++ rest) ≡ loads steps = ap loads parts in
    omega (arith, a, b, c, is)

pub at_most : (reqs : List ℕ) (slots n m : ℕ) → IsLeast reqs slots n → m ≤ n → IsAtMostLeast reqs slots m
at_most reqs slots n m least few k other =
    let a = least.least other.reached.0 other.reached.1 in
    let b = other.reached.2 in
    omega (arith, a, b, few)

-- The rule's plan serves, and no plan that serves has fewer loads.
use Rattle.std.proofs.Common.{◌≡◌, ℕ, zero, suc, ◌+◌, ◌<◌, ◌≤◌, Bool, true, false, IsTrue, not, cond, ◌&&◌, eqb, ltb, List, [], ◌∷◌, ◌++◌, length, take, Some, None, ◌⊎◌, inl, inr, refl, sym, ap, subst, arith}
use Rattle.std.proofs.lemmas.Bool.{and_from, or_from, or_parts, not_from_false, eqb-true, ltb-true, ltb-false, lt-ltb, false≢true, cond_both}
use Rattle.vault_types.specs.declared.Step.{Step}
use Rattle.vault_types.specs.declared.Step.TheVariants.{Load, Evict, Serve}
use Rattle.vault_types.specs.Lists.{has}
use Rattle.vault_types.specs.Plans.{serves, loads, IsLeast, farthest, load_behind, rule_steps, rule_plan}
use Rattle.belady_cache.proofs.Counts.{without, one_if, one_if-le, one_if_yes, near, times, near-le-length, near-without-le, length-without-le, times-without-le, near_without, near_without_far, times_none, times_some, length_without_among, near_cons_in, near_cons_out, near_all, has_first}
use Rattle.belady_cache.proofs.Steps.{loads_append, loads_cons, serves_load, serves_evict, serves_next}
use Rattle.belady_cache.proofs.Victim.{IsLast, best_is_last, last_near}

-- What the rule does for a request: nothing, as it is present; it loads it into a free slot; or it gives up the last
-- of the present ids for it.
abbrev pub Turn : ℕ → ℕ → List ℕ → List ℕ → List Step × List ℕ → Type 0
Turn slots q reqs present now =
    (IsTrue (has q present) × (now ≡ (Serve ∷ [], present)))
    ⊎ (((has q present ≡ false) × (length present < slots) × (now ≡ (Load q ∷ Serve ∷ [], q ∷ present)))
    ⊎ ((e : ℕ) × (has q present ≡ false) × (slots ≤ length present) × IsLast reqs present e × (now ≡ (Evict e ∷ Load q ∷ Serve ∷ [], q ∷ without e present))))

farthest_is : (reqs present : List ℕ) → 0 < length present → (e : ℕ) × (farthest reqs present ≡ Some e) × IsLast reqs present e
farthest_is reqs [] some = absurd (omega arith)
farthest_is reqs (a ∷ ids) some = (_, refl, best_is_last reqs ids a)

pub rule_turn : (slots q : ℕ) (reqs present : List ℕ) → 1 ≤ slots → Turn slots q reqs present (rule_steps slots present q reqs)
rule_turn slots q reqs present some = go (has q present) (ltb (length present) slots) refl refl
  where
    go : (among free : Bool) → has q present ≡ among → ltb (length present) slots ≡ free → Turn slots q reqs present (cond among (Serve ∷ [], present) (load_behind present q (cond free None (farthest reqs present))))
    go true free a f = inl (a, refl)
    go false true a f = inr (inl (a, ltb-true _ _ f, refl))
    go false false a f =
        let e = farthest_is reqs present (omega (arith, ltb-false _ _ f)) in
        inr (inr (e.0, a, ltb-false _ _ f, e.2, ap (load_behind present q) e.1))

-- The rule's present ids against those that another plan holds, with the same requests to come: in each
-- front of the requests the other plan holds at most c more ids that are requested there.
pub record Keeps (slots : ℕ) (reqs present held : List ℕ) (c : ℕ) : Type 0 where
  pub room : length present ≤ slots
  pub once : (x : ℕ) → times x present ≤ 1
  pub as_near : (k : ℕ) → near (take k reqs) held ≤ near (take k reqs) present + c

-- the rule and the other plan both have r
kept_near : (soon present held : List ℕ) (r c : ℕ) (b : Bool) → has r soon ≡ b → times r present ≤ 1 → 1 ≤ times r held → near (r ∷ soon) held ≤ near (r ∷ soon) present + c → near soon held ≤ near soon present + c
kept_near soon present held r c true e once some h = omega (arith, near_cons_in soon held r e, near_cons_in soon present r e)
kept_near soon present held r c false e once some h = omega (arith, near_cons_out soon held r e, near_cons_out soon present r e)

-- the rule loads r, and evicts nothing
loaded_near : (soon present held : List ℕ) (r c : ℕ) (b : Bool) → has r soon ≡ b → times r present ≡ 0 → 1 ≤ times r held → near (r ∷ soon) held ≤ near (r ∷ soon) present + suc c → near soon held ≤ near soon (r ∷ present) + c
loaded_near soon present held r c true e none some h =
    omega (arith, one_if_yes (has r soon) e, near_cons_in soon held r e, near_cons_in soon present r e)
loaded_near soon present held r c false e none some h =
    omega (arith, near_cons_out soon held r e, near_cons_out soon present r e)

-- the rule evicts x, which is not near, and loads r
far_near : (soon present held : List ℕ) (r x c : ℕ) → has x soon ≡ false → near soon held ≤ near soon (r ∷ present) + c → near soon held ≤ near soon (r ∷ without x present) + c
far_near soon present held r x c far h = omega (arith, near_without_far soon present x far)

-- the rule evicts x, all are near, and there are at least as many as the other plan holds
all_near : (soon present held : List ℕ) (r x c : ℕ) (b : Bool) → has r soon ≡ b → near soon present ≡ length present → length held ≤ length present → times x present ≤ 1 → 1 ≤ times r held → near soon held ≤ near soon (r ∷ without x present) + c
all_near soon present held r x c true e all more once some =
    omega (arith, one_if_yes (has r soon) e, near_without soon present x, near-le-length soon held)
all_near soon present held r x c false e all more once some =
    omega (arith, near_without soon present x, near_cons_out soon held r e, near-le-length (r ∷ soon) held)

-- what is present after the rule has served r
kept : (slots r : ℕ) (reqs present held : List ℕ) (c : ℕ) → has r present ≡ true → has r held ≡ true → Keeps slots (r ∷ reqs) present held c → Keeps slots reqs present held c
kept slots r reqs present held c present_has held_has keeps = record {
  room = keeps.room;
  once = keeps.once;
  as_near = λ k. kept_near (take k reqs) present held r c (has r (take k reqs)) refl (keeps.once r) (times_some held r held_has) (keeps.as_near (suc k));
}

pub once_more : (ids : List ℕ) (r : ℕ) → ((x : ℕ) → times x ids ≤ 1) → times r ids ≡ 0 → (x : ℕ) → times x (r ∷ ids) ≤ 1
once_more ids r once none x = go (eqb x r) refl
  where
    go : (b : Bool) → eqb x r ≡ b → one_if b + times x ids ≤ 1
    go true e = omega (arith, ap (λ y. times y ids) (eqb-true x r e))
    go false e = omega (arith, once x)

-- the other plan has r and the rule has not, so it was ahead
ahead : (slots r : ℕ) (reqs present held : List ℕ) (c : ℕ) → has r present ≡ false → has r held ≡ true → Keeps slots (r ∷ reqs) present held c → 1 ≤ c
ahead slots r reqs present held c lacks held_has keeps =
    omega (arith, keeps.as_near 1, near_cons_out [] held r refl, near_cons_out [] present r refl, near_none held, near_none present, times_some held r held_has, times_none present r lacks)
  where
    near_none : (ids : List ℕ) → near [] ids ≡ 0
    near_none [] = refl
    near_none (x ∷ ids) = omega (arith, near_none ids)

loaded : (slots r : ℕ) (reqs present held : List ℕ) (c : ℕ) → has r present ≡ false → has r held ≡ true → length present < slots → Keeps slots (r ∷ reqs) present held (suc c) → Keeps slots reqs (r ∷ present) held c
loaded slots r reqs present held c lacks held_has free keeps = record {
  room = omega arith;
  once = once_more present r keeps.once (times_none present r lacks);
  as_near = λ k. loaded_near (take k reqs) present held r c (has r (take k reqs)) refl (times_none present r lacks) (times_some held r held_has) (keeps.as_near (suc k));
}

evicted : (slots r x : ℕ) (reqs present held : List ℕ) (c : ℕ) → IsLast reqs present x → has r present ≡ false → has r held ≡ true → slots ≤ length present → length held ≤ slots → Keeps slots (r ∷ reqs) present held (suc c) → Keeps slots reqs (r ∷ without x present) held c
evicted slots r x reqs present held c last lacks held_has full held_room keeps = record {
  room = omega (arith, length_without_among present x last.held, keeps.room);
  once = once_more (without x present) r (λ y. omega (arith, times-without-le present x y, keeps.once y)) (omega (arith, times-without-le present x r, times_none present r lacks));
  as_near = λ k. go k (has x (take k reqs)) refl;
}
  where
    go : (k : ℕ) (b : Bool) → has x (take k reqs) ≡ b → near (take k reqs) held ≤ near (take k reqs) (r ∷ without x present) + c
    go k true e = all_near (take k reqs) present held r x c (has r (take k reqs)) refl (near_all (take k reqs) present (last_near reqs present x k last e)) (omega arith) (keeps.once x) (times_some held r held_has)
    go k false e = far_near (take k reqs) present held r x c e
        (loaded_near (take k reqs) present held r c (has r (take k reqs)) refl (times_none present r lacks) (times_some held r held_has) (keeps.as_near (suc k)))

-- what the rule pays for r, the lead of the other plan pays
abbrev PaidBy : ℕ → List ℕ → List ℕ → ℕ → List Step × List ℕ → Type 0
PaidBy slots reqs held c now = (rest : ℕ) × (loads now.0 + rest ≤ c) × Keeps slots reqs now.1 held rest

paid : (slots r : ℕ) (reqs present held : List ℕ) (c : ℕ) (now : List Step × List ℕ) → length held ≤ slots → has r held ≡ true → Keeps slots (r ∷ reqs) present held c → Turn slots r reqs present now → PaidBy slots reqs held c now
paid slots r reqs present held c now room held_has keeps (inl t) =
    subst (PaidBy slots reqs held c) (sym t.1) (c, omega arith, kept slots r reqs present held c t.0 held_has keeps)
paid slots r reqs present held zero now room held_has keeps (inr (inl t)) = absurd (omega (arith, ahead slots r reqs present held zero t.0 held_has keeps))
paid slots r reqs present held (suc c) now room held_has keeps (inr (inl t)) =
    subst (PaidBy slots reqs held (suc c)) (sym t.2) (c, omega arith, loaded slots r reqs present held c t.0 held_has t.1 keeps)
paid slots r reqs present held zero now room held_has keeps (inr (inr t)) = absurd (omega (arith, ahead slots r reqs present held zero t.1 held_has keeps))
paid slots r reqs present held (suc c) now room held_has keeps (inr (inr t)) =
    subst (PaidBy slots reqs held (suc c)) (sym t.4) (c, omega arith, evicted slots r t.0 reqs present held c t.3 t.1 held_has t.2 room keeps)

-- the theorem, from any two sets of present ids
bounded : (steps : List Step) (slots : ℕ) (reqs present held : List ℕ) (c : ℕ) → 1 ≤ slots → length held ≤ slots → Keeps slots reqs present held c → IsTrue (serves slots held steps reqs) → loads (rule_plan slots present reqs) ≤ loads steps + c
bounded [] slots [] present held c some room keeps served = omega arith
bounded [] slots (r ∷ reqs) present held c some room keeps served = absurd (false≢true served)
bounded (Load x ∷ steps) slots reqs present held c some room keeps served =
    let parts : (has x held ≡ false) × (length held < slots) × IsTrue (serves slots (x ∷ held) steps reqs) = serves_load slots x held steps reqs served in
    let ih : loads (rule_plan slots present reqs) ≤ loads steps + suc c = bounded steps slots reqs present (x ∷ held) (suc c) some (omega (arith, parts.1)) more parts.2 in
    omega (arith, ih, loads_cons (Load x) steps)
  where
    more : Keeps slots reqs present (x ∷ held) (suc c)
    more = record {
      room = keeps.room;
      once = keeps.once;
      as_near = λ k. omega (arith, one_if-le (has x (take k reqs)), keeps.as_near k);
    }
bounded (Evict x ∷ steps) slots reqs present held c some room keeps served =
    let ih : loads (rule_plan slots present reqs) ≤ loads steps + c = bounded steps slots reqs present (without x held) c some (omega (arith, length-without-le held x)) fewer (serves_evict slots x held steps reqs served).1 in
    omega (arith, ih, loads_cons (Evict x) steps)
  where
    fewer : Keeps slots reqs present (without x held) c
    fewer = record {
      room = keeps.room;
      once = keeps.once;
      as_near = λ k. omega (arith, near-without-le (take k reqs) held x, keeps.as_near k);
    }
bounded (Serve ∷ steps) slots [] present held c some room keeps served = absurd (false≢true served)
bounded (Serve ∷ steps) slots (r ∷ reqs) present held c some room keeps served =
    let parts : IsTrue (has r held) × IsTrue (serves slots held steps reqs) = serves_next slots r held steps reqs served in
    let now : List Step × List ℕ = rule_steps slots present r reqs in
    let p : PaidBy slots reqs held c now = paid slots r reqs present held c now room parts.0 keeps (rule_turn slots r reqs present some) in
    let ih : loads (rule_plan slots now.1 reqs) ≤ loads steps + p.0 = bounded steps slots reqs now.1 held p.0 some room p.2 parts.1 in
    omega (arith, ih, loads_append now.0 (rule_plan slots now.1 reqs), p.1, loads_cons Serve steps)

pub has_without : (ids : List ℕ) (x r : ℕ) → has r ids ≡ false → has r (without x ids) ≡ false
has_without [] x r e = refl
has_without (y ∷ ids) x r e =
    let parts : (eqb r y ≡ false) × (has r ids ≡ false) = or_parts _ _ e in
    let ih : has r (without x ids) ≡ false = has_without ids x r parts.1 in
    cond_both (not (eqb x y)) _ _ (λ zs. has r zs ≡ false) (λ h. or_from _ _ parts.0 ih) (λ h. ih)

-- a turn keeps within the slots
pub turn_room : (slots q : ℕ) (reqs present : List ℕ) (now : List Step × List ℕ) → length present ≤ slots → Turn slots q reqs present now → length now.1 ≤ slots
turn_room slots q reqs present now room (inl t) = omega (arith, ap (λ p. length p.1) t.1)
turn_room slots q reqs present now room (inr (inl t)) = omega (arith, t.1, ap (λ p. length p.1) t.2)
turn_room slots q reqs present now room (inr (inr t)) = omega (arith, length_without_among present t.0 t.3.held, ap (λ p. length p.1) t.4)

-- its steps serve the request
abbrev ServesNext : ℕ → List ℕ → ℕ → List ℕ → List Step × List ℕ → Type 0
ServesNext slots present q reqs now = IsTrue (serves slots present (now.0 ++ rule_plan slots now.1 reqs) (q ∷ reqs))

turn_serves : (slots q : ℕ) (reqs present : List ℕ) (now : List Step × List ℕ) → length present ≤ slots → Turn slots q reqs present now → IsTrue (serves slots now.1 (rule_plan slots now.1 reqs) reqs) → ServesNext slots present q reqs now
turn_serves slots q reqs present now room (inl t) later =
    subst (ServesNext slots present q reqs) (sym t.1)
    (and_from (has q present) _ t.0 (subst (λ p. IsTrue (serves slots p.1 (rule_plan slots p.1 reqs) reqs)) t.1 later))
turn_serves slots q reqs present now room (inr (inl t)) later =
    subst (ServesNext slots present q reqs) (sym t.2)
    (and_from (not (has q present) && ltb (length present) slots) _
    (and_from (not (has q present)) _ (not_from_false _ t.0) (lt-ltb _ _ t.1))
    (and_from (has q (q ∷ present)) _ (has_first q present) (subst (λ p. IsTrue (serves slots p.1 (rule_plan slots p.1 reqs) reqs)) t.2 later)))
turn_serves slots q reqs present now room (inr (inr t)) later =
    let left : List ℕ = without t.0 present in
    subst (ServesNext slots present q reqs) (sym t.4)
    (and_from (has t.0 present) _ t.3.held
    (and_from (not (has q left) && ltb (length left) slots) _
    (and_from (not (has q left)) _ (not_from_false _ (has_without present t.0 q t.1)) (lt-ltb _ _ (omega (arith, length_without_among present t.0 t.3.held))))
    (and_from (has q (q ∷ left)) _ (has_first q left) (subst (λ p. IsTrue (serves slots p.1 (rule_plan slots p.1 reqs) reqs)) t.4 later))))

pub rule_serves : (reqs : List ℕ) (slots : ℕ) (present : List ℕ) → 1 ≤ slots → length present ≤ slots → IsTrue (serves slots present (rule_plan slots present reqs) reqs)
rule_serves [] slots present some room = refl
rule_serves (q ∷ reqs) slots present some room =
    let now : List Step × List ℕ = rule_steps slots present q reqs in
    let turn : Turn slots q reqs present now = rule_turn slots q reqs present some in
    turn_serves slots q reqs present now room turn (rule_serves reqs slots now.1 some (turn_room slots q reqs present now room turn))

-- the rule's plan has the fewest loads of all plans that serve
pub rule_is_least : (slots : ℕ) (reqs : List ℕ) → 1 ≤ slots → IsLeast reqs slots (loads (rule_plan slots [] reqs))
rule_is_least slots reqs some = record {
  reached = (rule_plan slots [] reqs, rule_serves reqs slots [] some (omega arith), refl);
  least = λ steps served. omega (arith, bounded steps slots reqs [] [] 0 some (omega arith) start served);
}
  where
    start : Keeps slots reqs [] [] 0
    start = record { room = omega arith; once = λ x. omega arith; as_near = λ k. omega arith }

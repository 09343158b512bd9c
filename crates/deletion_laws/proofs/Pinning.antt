-- The containers of pins.
use Rattle.std.proofs.Common.{◌≡◌, ◌⊎◌, inl, inr, ⊎_elim, ℕ, zero, suc, ◌<◌, ◌≤◌, ◌+◌, length, map, Bool, true, false, cond, ◌||◌, not, List, [], ◌∷◌, ◌++◌, Option, Some, refl, sym, ◌∙◌, ap, subst, arith}
use Rattle.std.specs.Prelude.{Contains, IfSome, filter, nat_eq, ◌==◌}
use Rattle.std.specs.List.{AllByRecursion, IsDistinct, range_with_len}
use Rattle.std.proofs.lemmas.Bool.Decides.{nat_tests}
use Rattle.std.proofs.lemmas.Map.Keys.{IsDistinct-head, IsDistinct-tail, IsDistinct-cons}
use Rattle.std.proofs.lemmas.List.Elements.{Contains-append_left, Contains-append_right, Contains-append_cases}
use Rattle.vault_types.specs.Lists.{has}
use Rattle.vault_types.specs.Tables.{Container, id_of}
use Rattle.vault_types.specs.State.{KeptVersion, next_of, container_in}
use Rattle.vault_types.specs.Events.{Core, Pin, put_by, pinned_containers, pins_without, pin_of, containers_of, IsCore}
use Rattle.restore_pins.specs.Pins.{Listed, AreListsOf, ids_at}
use Rattle.deletion_laws.specs.Deleting.{pinned_ids}
use Rattle.keeper_catalog.specs.View.{AreAlike}
use Rattle.deletion_laws.specs.Releasing.{released_ids}
use Rattle.state_laws.proofs.Members.{clash, of_map, in_map, has-map_append, filter_within, container_in-is, container_in-some}
use Rattle.deletion_laws.proofs.Indexing.{containers_once}

-- fewer pins

pub fewer_pinned : (p : Pin → Bool) (pins : List Pin) (c : Container) → Contains (pinned_containers (filter p pins)) c → Contains (pinned_containers pins) c
fewer_pinned p [] c there = there
fewer_pinned p (q ∷ qs) c there = step (p q) there (fewer_pinned p qs c)
  where
    step : (b : Bool) → Contains (pinned_containers (cond b (q ∷ filter p qs) (filter p qs))) c → (Contains (pinned_containers (filter p qs)) c → Contains (pinned_containers qs) c) → Contains (q.containers ++ pinned_containers qs) c
    step true h rest = ⊎_elim
        (λ first. Contains-append_left q.containers (pinned_containers qs) c first)
        (λ more. Contains-append_right q.containers (pinned_containers qs) c (rest more))
        (Contains-append_cases q.containers (pinned_containers (filter p qs)) c h)
    step false h rest = Contains-append_right q.containers (pinned_containers qs) c (rest h)

all_numbers : (P : ℕ → Type 0) (p : Pin → Bool) (pins : List Pin) → AllByRecursion P (map (λ q. q.number) pins) → AllByRecursion P (map (λ q. q.number) (filter p pins))
all_numbers P p [] all = tt
all_numbers P p (q ∷ qs) all = step (p q) (all_numbers P p qs all.1)
  where
    step : (b : Bool) → AllByRecursion P (map (λ q. q.number) (filter p qs)) → AllByRecursion P (map (λ q. q.number) (cond b (q ∷ filter p qs) (filter p qs)))
    step true h = (all.0, h)
    step false h = h

pub fewer_numbers : (p : Pin → Bool) (pins : List Pin) → IsDistinct nat_eq (map (λ q. q.number) pins) → IsDistinct nat_eq (map (λ q. q.number) (filter p pins))
fewer_numbers p [] h = h
fewer_numbers p (q ∷ qs) h = step (p q) (fewer_numbers p qs (IsDistinct-tail nat_eq q.number (map (λ q. q.number) qs) h))
  where
    step : (b : Bool) → IsDistinct nat_eq (map (λ q. q.number) (filter p qs)) → IsDistinct nat_eq (map (λ q. q.number) (cond b (q ∷ filter p qs) (filter p qs)))
    step true i = IsDistinct-cons nat_eq q.number (map (λ q. q.number) (filter p qs)) (all_numbers (λ y. nat_eq q.number y ≡ false) p qs (IsDistinct-head nat_eq q.number (map (λ q. q.number) qs) h)) i
    step false i = i

-- an id is listed by a pin of the number, or by another one
pub listed_by : (number id : ℕ) (pins : List Pin) → has id (pinned_ids pins) ≡ (has id (released_ids number pins) || has id (pinned_ids (pins_without number pins)))
listed_by number id [] = refl
listed_by number id (p ∷ ps) =
    has-map_append id_of id p.containers (pinned_containers ps)
    ∙ ap (λ (b : Bool). has id (map id_of p.containers) || b) (listed_by number id ps)
    ∙ step (p.number == number)
  where
    assoc : (a b c : Bool) → (a || (b || c)) ≡ ((a || b) || c)
    assoc true b c = refl
    assoc false b c = refl

    swap : (a b c : Bool) → (a || (b || c)) ≡ (b || (a || c))
    swap true true c = refl
    swap true false c = refl
    swap false b c = refl

    step : (b : Bool) → (has id (map id_of p.containers) || (has id (released_ids number ps) || has id (pinned_ids (pins_without number ps))))
        ≡ (has id (pinned_ids (cond b (p ∷ filter (λ q. q.number == number) ps) (filter (λ q. q.number == number) ps))) || has id (pinned_ids (cond (not b) (p ∷ pins_without number ps) (pins_without number ps))))
    step true = assoc (has id (map id_of p.containers)) (has id (released_ids number ps)) (has id (pinned_ids (pins_without number ps)))
        ∙ ap (λ (b : Bool). b || has id (pinned_ids (pins_without number ps))) (sym (has-map_append id_of id p.containers (pinned_containers (filter (λ q. q.number == number) ps))))
    step false = swap (has id (map id_of p.containers)) (has id (released_ids number ps)) (has id (pinned_ids (pins_without number ps)))
        ∙ ap (λ (b : Bool). has id (released_ids number ps) || b) (sym (has-map_append id_of id p.containers (pinned_containers (pins_without number ps))))

-- the list in memory is that of the pins of the number

none_released : (number id : ℕ) (pins : List Pin) → AllByRecursion (λ k. nat_eq number k ≡ false) (map (λ p. p.number) pins) → has id (released_ids number pins) ≡ false
none_released number id [] all = refl
none_released number id (p ∷ ps) all = step (p.number == number) (let e : (p.number == number) ≡ false = grind (arith, nat_tests, all.0) in e) (none_released number id ps all.1)
  where
    step : (b : Bool) → b ≡ false → has id (released_ids number ps) ≡ false → has id (pinned_ids (cond b (p ∷ filter (λ q. q.number == number) ps) (filter (λ q. q.number == number) ps))) ≡ false
    step true e h = absurd (let c : true ≡ false = e in cc)
    step false e h = h

pub listed_released : (number id : ℕ) (ls : List Listed) (ps : List Pin) → AreListsOf ls ps → IsDistinct nat_eq (map (λ p. p.number) ps) → has id (ids_at ls number) ≡ has id (released_ids number ps)
listed_released number id [] [] are once = refl
listed_released number id [] (p ∷ ps) are once = absurd are
listed_released number id (l ∷ ls) [] are once = absurd are
listed_released number id (l ∷ ls) (p ∷ ps) are once = step (nat_eq l.number number) (p.number == number) refl refl (listed_released number id ls ps are.1 (IsDistinct-tail nat_eq p.number (map (λ p. p.number) ps) once))
  where
    same : l.number ≡ p.number
    same = sym are.0.number

    or_false : (a b : Bool) → b ≡ false → a ≡ (a || b)
    or_false true b e = refl
    or_false false b e = sym e

    step : (a b : Bool) → nat_eq l.number number ≡ a → (p.number == number) ≡ b → has id (ids_at ls number) ≡ has id (released_ids number ps)
        → has id (cond a l.ids (ids_at ls number)) ≡ has id (pinned_ids (cond b (p ∷ filter (λ q. q.number == number) ps) (filter (λ q. q.number == number) ps)))
    step true true e f h =
        let is : p.number ≡ number = grind (arith, nat_tests) in
        sym (are.0.ids id)
        ∙ or_false (has id (map id_of p.containers)) (has id (released_ids number ps)) (none_released number id ps (subst (λ (k : ℕ). AllByRecursion (λ j. nat_eq k j ≡ false) (map (λ q. q.number) ps)) is (IsDistinct-head nat_eq p.number (map (λ q. q.number) ps) once)))
        ∙ sym (has-map_append id_of id p.containers (pinned_containers (filter (λ q. q.number == number) ps)))
    step true false e f h = let is : l.number ≡ number = grind (arith, nat_tests) in let at : p.number ≡ number = sym same ∙ is in clash (p.number == number) (let g : (p.number == number) ≡ true = grind (arith, nat_tests) in g) f
    step false true e f h = let is : p.number ≡ number = grind (arith, nat_tests) in let at : l.number ≡ number = same ∙ is in clash (nat_eq l.number number) (let g : nat_eq l.number number ≡ true = grind (arith, nat_tests) in g) e
    step false false e f h = h

-- what a pin lists has an id below the first free one, and the job's containers have not

range_low : (a n k : ℕ) → has k (range_with_len a n) ≡ true → a ≤ k
range_low a zero k h = absurd (let e : false ≡ true = h in cc)
range_low a (suc n) k h = step (nat_eq k a) refl h (range_low (a + 1) n k)
  where
    step : (b : Bool) → nat_eq k a ≡ b → (b || has k (range_with_len (a + 1) n)) ≡ true → (has k (range_with_len (a + 1) n) ≡ true → a + 1 ≤ k) → a ≤ k
    step true e i rest = let g : a ≤ k = grind (arith, nat_tests) in g
    step false e i rest = omega (arith, rest i)

pub pinned_low : (K : Core) → IsCore K → (id : ℕ) → has id (pinned_ids K.pins) ≡ true → id < next_of K.state
pinned_low K core id h = let c = of_map id_of (pinned_containers K.pins) id h in subst (λ (k : ℕ). k < next_of K.state) c.2 (core.pins c.0 c.1).0

pub pinned_not_put : (K : Core) → IsCore K → (id : ℕ) → has id (pinned_ids K.pins) ≡ true → has id (map id_of (put_by K.job)) ≡ false
pinned_not_put K core id h = step (has id (map id_of (put_by K.job))) refl
  where
    step : (b : Bool) → has id (map id_of (put_by K.job)) ≡ b → has id (map id_of (put_by K.job)) ≡ false
    step false e = e
    step true e =
        let high = range_low (next_of K.state) (length (put_by K.job)) id (ap (has id) (sym core.job) ∙ e) in
        let less = pinned_low K core id h in
        absurd (omega arith)

-- pins stay alike

pub alike_fewer : (p : Pin → Bool) (pins : List Pin) → AreAlike pins → AreAlike (filter p pins)
alike_fewer p pins alike c d one two same = alike c d (fewer_pinned p pins c one) (fewer_pinned p pins d two) same

pinned_push : (pins : List Pin) (p : Pin) (c : Container) → Contains (pinned_containers (pins ++ p ∷ [])) c → Contains (pinned_containers pins) c ⊎ Contains p.containers c
pinned_push [] p c there = ⊎_elim (λ here. inr here) (λ none. inl none) (Contains-append_cases p.containers [] c there)
pinned_push (q ∷ qs) p c there = ⊎_elim
    (λ first. inl (Contains-append_left q.containers (pinned_containers qs) c first))
    (λ rest. ⊎_elim (λ old. inl (Contains-append_right q.containers (pinned_containers qs) c old)) (λ new. inr new) (pinned_push qs p c rest))
    (Contains-append_cases q.containers (pinned_containers (qs ++ p ∷ [])) c there)

-- a pin that lists containers of the state by any ids
pub alike_more : (K : Core) (p : Pin) (ids : List ℕ) → IsCore K → AreAlike K.pins → p.containers ≡ containers_of K.state.containers ids → AreAlike (K.pins ++ p ∷ [])
alike_more K p ids core alike lists c d one two same = ⊎_elim
    (λ old. ⊎_elim (λ also. alike c d old also same) (λ new. as_state c d old (fresh d new) same) (pinned_push K.pins p d two))
    (λ new. ⊎_elim (λ old. sym (as_state d c old (fresh c new) (sym same))) (λ also. containers_once K.state core.state c d (fresh c new) (fresh d also) same) (pinned_push K.pins p d two))
    (pinned_push K.pins p c one)
  where
    fresh : (e : Container) → Contains p.containers e → Contains K.state.containers e
    fresh e new = filter_within (λ c. has c.table.id ids) K.state.containers e (subst (λ (l : List Container). Contains l e) lists new)

    some_of : (o : Option Container) (e : Container) (P : Container → Type 0) → o ≡ Some e → IfSome o P → P e
    some_of o e P is holds = subst (λ (o : Option Container). IfSome o P) is holds

    as_state : (e f : Container) → Contains (pinned_containers K.pins) e → Contains K.state.containers f → e.table.id ≡ f.table.id → e ≡ f
    as_state e f old there same =
        let at = container_in-some K.state.containers f.table.id (in_map id_of K.state.containers f there) in
        let found = container_in-is K.state.containers f.table.id at.0 at.1 in
        sym (some_of (container_in K.state.containers f.table.id) at.0 (λ (x : Container). x ≡ e) at.1 (subst (λ (i : ℕ). IfSome (container_in K.state.containers i) (λ x. x ≡ e)) same (core.pins e old).1))
        ∙ containers_once K.state core.state at.0 f found.0 there found.1

pub alike_pin : (K : Core) (number s v : ℕ) (k : KeptVersion) → IsCore K → AreAlike K.pins → AreAlike (K.pins ++ pin_of number s v K.state k ∷ [])
alike_pin K number s v k core alike = alike_more K (pin_of number s v K.state k) (map (λ r. r.id) k.rows) core alike refl

-- What the planner keeps, against the rule on the ids alone.
use Rattle.std.proofs.Common.{◌≡◌, ℕ, suc, ◌+◌, ◌<◌, ◌≤◌, Bool, true, false, IsTrue, not, cond, ◌||◌, ◌&&◌, ◌==◌, eqb, nat_lt, List, [], ◌∷◌, ◌++◌, length, drop, slice_index, All, inl, inr, refl, sym, ap, subst, ◌∙◌, arith, append_assoc, append-nil, drop-cons, add-one}
use Rattle.std.specs.List.{best_of}
use Rattle.std.proofs.lemmas.Bool.{cond_both, eqb-true, lt-ltb, le-ltb}
use Rattle.std.proofs.lemmas.Bool.Decides.{nat_tests}
use Rattle.std.proofs.lemmas.List.{drop_all}
use Rattle.std.proofs.lemmas.List.Elements.{All-head, All-tail, All-map, All-weaker, All-push}
use Rattle.vault_types.specs.declared.Step.{Step}
use Rattle.vault_types.specs.declared.Step.TheVariants.{Load, Evict, Serve}
use Rattle.vault_types.specs.Lists.{has}
use Rattle.vault_types.specs.Plans.{serves, loads, IsLeast, next_use, goes_before, rule_steps, rule_plan}
use Rattle.belady_cache.specs.declared.present.Held.{Held}
use Rattle.belady_cache.specs.Present.{ids_of, is_farther, farthest_of, is_present, replaced, present_after, steps_of}
use Rattle.belady_cache.proofs.Counts.{without, one_if, one_if-le, times, times_none, times_some, times-without-le}
use Rattle.belady_cache.proofs.Victim.{IsLast, best_is_last, last_is}
use Rattle.belady_cache.proofs.Optimal.{Turn, rule_turn, turn_room, once_more, rule_serves, rule_is_least}
use Rattle.belady_cache.proofs.Steps.{loads_append}
use Rattle.belady_cache.proofs.Same.{Same, eqb_sym, has_same, swapped, same_push, same_swapped}

-- h's next place is that of its next request among reqs, which begin at place i
abbrev pub Knows : List ℕ → ℕ → Held → Type 0
Knows reqs i h = h.next ≡ i + next_use reqs h.id

-- the planner's test is the rule's
farther_is : (reqs : List ℕ) (i : ℕ) (a b : Held) → Knows reqs i a → Knows reqs i b → is_farther a b ≡ goes_before reqs a.id b.id
farther_is reqs i a b p q = go a.next b.next (next_use reqs a.id) (next_use reqs b.id) p q
  where
    later : (i x y m n : ℕ) → x ≡ i + m → y ≡ i + n → nat_lt y x ≡ nat_lt n m
    later i x y m n p q = grind (arith, nat_tests)

    level : (i x y m n : ℕ) → x ≡ i + m → y ≡ i + n → (x == y) ≡ (m == n)
    level i x y m n p q = grind (arith, nat_tests)

    go : (x y m n : ℕ) → x ≡ i + m → y ≡ i + n → (nat_lt y x || ((x == y) && nat_lt a.id b.id)) ≡ (nat_lt n m || ((m == n) && nat_lt a.id b.id))
    go x y m n p q = ap (λ t. t || ((x == y) && nat_lt a.id b.id)) (later i x y m n p q) ∙ ap (λ t. nat_lt n m || (t && nat_lt a.id b.id)) (level i x y m n p q)

best_is : (reqs : List ℕ) (i : ℕ) (held : List Held) (a : Held) → Knows reqs i a → All (Knows reqs i) held → (best_of is_farther a held).id ≡ best_of (goes_before reqs) a.id (ids_of held)
best_is reqs i [] a p all = refl
best_is reqs i (y ∷ held) a p all =
    let q : Knows reqs i y = All-head (Knows reqs i) y held all in
    let rest : All (Knows reqs i) held = All-tail (Knows reqs i) y held all in
    by (is_farther y a) (best_is reqs i held y q rest) (best_is reqs i held a p rest)
    ∙ ap (λ t. best_of (goes_before reqs) (cond t y.id a.id) (ids_of held)) (farther_is reqs i y a q p)
  where
    by : (b : Bool) → (best_of is_farther y held).id ≡ best_of (goes_before reqs) y.id (ids_of held) → (best_of is_farther a held).id ≡ best_of (goes_before reqs) a.id (ids_of held)
        → (best_of is_farther (cond b y a) held).id ≡ best_of (goes_before reqs) (cond b y.id a.id) (ids_of held)
    by true first second = first
    by false first second = second

farthest_is_last : (reqs : List ℕ) (i : ℕ) (held : List Held) → 0 < length held → All (Knows reqs i) held → IsLast reqs (ids_of held) (farthest_of held)
farthest_is_last reqs i [] some all = absurd (omega arith)
farthest_is_last reqs i (a ∷ held) some all =
    subst (λ e. IsLast reqs (a.id ∷ ids_of held) e) (sym (best_is reqs i held a (All-head (Knows reqs i) a held all) (All-tail (Knows reqs i) a held all)))
    (best_is_last reqs (ids_of held) a.id)

-- the ids behind the planner's steps
is_present_has : (r : ℕ) (held : List Held) → is_present r held ≡ has r (ids_of held)
is_present_has r [] = refl
is_present_has r (h ∷ held) = ap (λ b. b || is_present r held) (eqb_sym h.id r) ∙ ap (λ b. eqb r h.id || b) (is_present_has r held)

length-ids : (held : List Held) → length (ids_of held) ≡ length held
length-ids [] = refl
length-ids (h ∷ held) = ap suc (length-ids held)

ids_push : (held : List Held) (h : Held) → ids_of (held ++ h ∷ []) ≡ ids_of held ++ h.id ∷ []
ids_push [] h = refl
ids_push (y ∷ held) h = ap (λ xs. y.id ∷ xs) (ids_push held h)

ids_replaced : (e : ℕ) (new : Held) (held : List Held) → ids_of (replaced e new held) ≡ swapped e new.id (ids_of held)
ids_replaced e new [] = refl
ids_replaced e new (h ∷ held) = ap (λ x. x ∷ ids_of (replaced e new held)) (one (h.id == e)) ∙ ap (λ xs. cond (h.id == e) new.id h.id ∷ xs) (ids_replaced e new held)
  where
    one : (b : Bool) → (cond b new h).id ≡ cond b new.id h.id
    one true = refl
    one false = refl

ids_noted : (new : Held) (held : List Held) → ids_of (replaced new.id new held) ≡ ids_of held
ids_noted new [] = refl
ids_noted new (h ∷ held) = ap (λ x. x ∷ ids_of (replaced new.id new held)) (one (h.id == new.id) refl) ∙ ap (λ xs. h.id ∷ xs) (ids_noted new held)
  where
    one : (b : Bool) → (h.id == new.id) ≡ b → (cond b new h).id ≡ h.id
    one true e = sym (eqb-true h.id new.id e)
    one false e = refl

-- what is known of the next places
known_after : (reqs : List ℕ) (i : ℕ) (new h : Held) → Knows reqs (i + 1) new → Knows (new.id ∷ reqs) i h → Knows reqs (i + 1) (cond (h.id == new.id) new h)
known_after reqs i new h is known = go (h.id == new.id) refl
  where
    go : (b : Bool) → eqb h.id new.id ≡ b → Knows reqs (i + 1) (cond b new h)
    go true e = is
    go false e = let later : next_use (new.id ∷ reqs) h.id ≡ 1 + next_use reqs h.id = ap (λ t. cond (not t) (1 + next_use reqs h.id) 0) e in omega arith

all_noted : (reqs : List ℕ) (i : ℕ) (new : Held) (held : List Held) → Knows reqs (i + 1) new → All (Knows (new.id ∷ reqs) i) held → All (Knows reqs (i + 1)) (replaced new.id new held)
all_noted reqs i new held is all =
    All-map (Knows reqs (i + 1)) (λ h. cond (h.id == new.id) new h) held
    (All-weaker (Knows (new.id ∷ reqs) i) (λ h. Knows reqs (i + 1) (cond (h.id == new.id) new h)) (λ h k. known_after reqs i new h is k) held all)

all_replaced : (P : Held → Type 0) (e : ℕ) (new : Held) (held : List Held) → P new → All P held → All P (replaced e new held)
all_replaced P e new held is all =
    All-map P (λ h. cond (h.id == e) new h) held
    (All-weaker P (λ h. P (cond (h.id == e) new h)) (λ h k. cond_both (h.id == e) new h P (λ t. is) (λ t. k)) held all)

-- a turn by its two tests, where gone is the one to give up
abbrev after_by : Bool → Bool → ℕ → Held → List Held → List Held
after_by among free gone new noted = cond among noted (cond free (noted ++ new ∷ []) (replaced gone new noted))

abbrev steps_by : Bool → Bool → ℕ → Held → List Step
steps_by among free gone new = cond among [] (cond free (Load new.id ∷ []) (Evict gone ∷ Load new.id ∷ [])) ++ Serve ∷ []

-- the planner's turn is that of the rule, with rest to come
record Match (rest : List ℕ) (i : ℕ) (now : List Step × List ℕ) (held : List Held) (steps : List Step) (among : Bool) : Type 0 where
  same_steps : steps ≡ now.0
  same : Same now.1 (ids_of held)
  once : (x : ℕ) → times x now.1 ≤ 1
  known : All (Knows rest (i + 1)) held
  paid : loads steps ≡ one_if (not among)

abbrev MatchBy : List ℕ → ℕ → List Step × List ℕ → ℕ → Held → List Held → Bool → Bool → Type 0
MatchBy rest i now gone new noted among free = Match rest i now (after_by among free gone new noted) (steps_by among free gone new) among

match_by : (slots i : ℕ) (rest present : List ℕ) (now : List Step × List ℕ) (new : Held) (noted : List Held) → 1 ≤ slots → Knows rest (i + 1) new → All (Knows rest (i + 1)) noted → Same present (ids_of noted) → ((x : ℕ) → times x present ≤ 1)
    → Turn slots new.id rest present now → MatchBy rest i now (farthest_of noted) new noted (is_present new.id noted) (nat_lt (length noted) slots)
match_by slots i rest present now new noted some is known same once (inl t) =
    let among : is_present new.id noted ≡ true = is_present_has new.id noted ∙ sym (has_same present (ids_of noted) new.id same) ∙ t.0 in
    subst (λ b. MatchBy rest i now (farthest_of noted) new noted b (nat_lt (length noted) slots)) (sym among)
    (subst (λ n. MatchBy rest i n (farthest_of noted) new noted true (nat_lt (length noted) slots)) (sym t.1)
    (record { same_steps = refl; same = same; once = once; known = known; paid = refl }))
match_by slots i rest present now new noted some is known same once (inr (inl t)) =
    let among : is_present new.id noted ≡ false = is_present_has new.id noted ∙ sym (has_same present (ids_of noted) new.id same) ∙ t.0 in
    let free : nat_lt (length noted) slots ≡ true = lt-ltb _ _ (omega (arith, t.1, same.long, length-ids noted)) in
    subst (λ b. MatchBy rest i now (farthest_of noted) new noted b (nat_lt (length noted) slots)) (sym among)
    (subst (λ b. MatchBy rest i now (farthest_of noted) new noted false b) (sym free)
    (subst (λ n. MatchBy rest i n (farthest_of noted) new noted false true) (sym t.2)
    (record {
      same_steps = refl;
      same = subst (λ ids. Same (new.id ∷ present) ids) (sym (ids_push noted new)) (same_push present (ids_of noted) new.id same);
      once = once_more present new.id once (times_none present new.id t.0);
      known = All-push (Knows rest (i + 1)) noted new known is;
      paid = refl;
    })))
match_by slots i rest present now new noted some is known same once (inr (inr t)) =
    let e : ℕ = t.0 in
    let among : is_present new.id noted ≡ false = is_present_has new.id noted ∙ sym (has_same present (ids_of noted) new.id same) ∙ t.1 in
    let free : nat_lt (length noted) slots ≡ false = le-ltb _ _ (omega (arith, t.2, same.long, length-ids noted)) in
    let last : IsLast rest (ids_of noted) (farthest_of noted) = farthest_is_last rest (i + 1) noted (omega (arith, t.2, same.long, length-ids noted)) known in
    let gone : e ≡ farthest_of noted = last_is rest present (ids_of noted) e (farthest_of noted)
    (λ x h. sym (has_same present (ids_of noted) x same) ∙ h) (λ x h. has_same present (ids_of noted) x same ∙ h) t.3 last in
    let stands : times e present ≡ 1 = omega (arith, once e, times_some present e t.3.held) in
    subst (λ b. MatchBy rest i now (farthest_of noted) new noted b (nat_lt (length noted) slots)) (sym among)
    (subst (λ b. MatchBy rest i now (farthest_of noted) new noted false b) (sym free)
    (subst (λ g. MatchBy rest i now g new noted false false) gone
    (subst (λ n. MatchBy rest i n e new noted false false) (sym t.4)
    (record {
      same_steps = refl;
      same = subst (λ ids. Same (new.id ∷ without e present) ids) (sym (ids_replaced e new noted)) (same_swapped present (ids_of noted) e new.id stands same);
      once = once_more (without e present) new.id (λ x. omega (arith, times-without-le present e x, once x)) (omega (arith, times-without-le present e new.id, times_none present new.id t.1));
      known = all_replaced (Knows rest (i + 1)) e new noted is known;
      paid = refl;
    }))))

-- one turn of the planner
matches : (slots i : ℕ) (rest present : List ℕ) (now : List Step × List ℕ) (new : Held) (held : List Held) → 1 ≤ slots → Knows rest (i + 1) new → All (Knows (new.id ∷ rest) i) held → Same present (ids_of held) → ((x : ℕ) → times x present ≤ 1)
    → Turn slots new.id rest present now → Match rest i now (present_after slots new held) (steps_of slots new held) (is_present new.id held)
matches slots i rest present now new held some is known same once turn =
    let noted : List Held = replaced new.id new held in
    let among : is_present new.id noted ≡ is_present new.id held = is_present_has new.id noted ∙ ap (has new.id) (ids_noted new held) ∙ sym (is_present_has new.id held) in
    subst (λ b. MatchBy rest i now (farthest_of noted) new noted b (nat_lt (length noted) slots)) among
    (match_by slots i rest present now new noted some is (all_noted rest i new held is known) (subst (λ ids. Same present ids) (sym (ids_noted new held)) same) once turn)

-- what holds when i requests are served: what is present, the steps so far and the loads among them
pub record Underway (slots : ℕ) (reqs : List ℕ) (i : ℕ) (held : List Held) (steps : List Step) (n : ℕ) : Type 0 where
  pub present : List ℕ
  pub same : Same present (ids_of held)
  pub once : (x : ℕ) → times x present ≤ 1
  pub room : length present ≤ slots
  pub known : All (Knows (drop i reqs) i) held
  pub so_far : steps ++ rule_plan slots present (drop i reqs) ≡ rule_plan slots [] reqs
  pub counted : n ≡ loads steps
  pub few : n ≤ i

pub underway_more : (slots : ℕ) (reqs : List ℕ) (i : ℕ) (new : Held) (held held' : List Held) (steps steps' : List Step) (n n' : ℕ) → 1 ≤ slots → i < length reqs → new.id ≡ slice_index reqs i → new.next ≡ i + 1 + next_use (drop (i + 1) reqs) new.id
    → held' ≡ present_after slots new held → steps' ≡ steps ++ steps_of slots new held → n' ≡ n + one_if (not (is_present new.id held)) → Underway slots reqs i held steps n → Underway slots reqs (i + 1) held' steps' n'
underway_more slots reqs i new held held' steps steps' n n' some l is_id is_next is_held is_steps is_n u = record {
  present = now.1;
  same = subst (λ hs. Same now.1 (ids_of hs)) (sym is_held) m.same;
  once = m.once;
  room = turn_room slots new.id rest u.present now u.room turn;
  known = subst (λ hs. All (Knows rest (i + 1)) hs) (sym is_held) m.known;
  so_far = ap (λ xs. xs ++ rule_plan slots now.1 rest) (is_steps ∙ ap (λ xs. steps ++ xs) m.same_steps)
      ∙ append_assoc steps now.0 (rule_plan slots now.1 rest)
      ∙ ap (λ xs. steps ++ rule_plan slots u.present xs) (sym front)
      ∙ u.so_far;
  counted = omega (arith, u.counted, ap loads is_steps, loads_append steps (steps_of slots new held), m.paid);
  few = omega (arith, u.few, one_if-le (not (is_present new.id held)));
}
  where
    rest : List ℕ
    rest = drop (i + 1) reqs

    front : drop i reqs ≡ new.id ∷ drop (i + 1) reqs
    front = drop-cons reqs i 0 l ∙ ap (λ j. slice_index reqs i ∷ drop j reqs) (sym (add-one i)) ∙ ap (λ x. x ∷ drop (i + 1) reqs) (sym is_id)

    now : List Step × List ℕ
    now = rule_steps slots u.present new.id (drop (i + 1) reqs)

    turn : Turn slots new.id (drop (i + 1) reqs) u.present (rule_steps slots u.present new.id (drop (i + 1) reqs))
    turn = rule_turn slots new.id (drop (i + 1) reqs) u.present some

    m : Match (drop (i + 1) reqs) i (rule_steps slots u.present new.id (drop (i + 1) reqs)) (present_after slots new held) (steps_of slots new held) (is_present new.id held)
    m = matches slots i (drop (i + 1) reqs) u.present (rule_steps slots u.present new.id (drop (i + 1) reqs)) new held some is_next
        (subst (λ xs. All (Knows xs i) held) front u.known) u.same u.once (rule_turn slots new.id (drop (i + 1) reqs) u.present some)

pub underway_end : (slots : ℕ) (reqs : List ℕ) (i : ℕ) (held : List Held) (steps : List Step) (n : ℕ) → length reqs ≤ i → Underway slots reqs i held steps n → steps ≡ rule_plan slots [] reqs
underway_end slots reqs i held steps n l u =
    sym (append-nil steps) ∙ ap (λ xs. steps ++ rule_plan slots u.present xs) (sym (drop_all i reqs l)) ∙ u.so_far

pub serves_end : (slots : ℕ) (reqs : List ℕ) (steps : List Step) → 1 ≤ slots → steps ≡ rule_plan slots [] reqs → IsTrue (serves slots [] steps reqs)
serves_end slots reqs steps some e = subst (λ xs. IsTrue (serves slots [] xs reqs)) (sym e) (rule_serves reqs slots [] some (omega arith))

pub least_end : (slots : ℕ) (reqs : List ℕ) (steps : List Step) (n : ℕ) → 1 ≤ slots → n ≡ loads steps → steps ≡ rule_plan slots [] reqs → IsLeast reqs slots n
least_end slots reqs steps n some e f = subst (λ k. IsLeast reqs slots k) (sym (e ∙ ap loads f)) (rule_is_least slots reqs some)

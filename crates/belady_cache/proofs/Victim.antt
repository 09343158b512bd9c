-- The id that the rule gives up is present, and no present id is requested later.
use Rattle.std.proofs.Common.{◌≡◌, ℕ, zero, suc, ◌+◌, ◌<◌, ◌≤◌, Bool, true, false, not, cond, ◌||◌, eqb, ltb, List, [], ◌∷◌, take, refl, sym, ap, subst, ◌⊎◌, ◌≢◌, inl, inr, arith}
use Rattle.std.proofs.lemmas.Bool.{eqb-true, eqb-false, ltb-true, ltb-false, or_cases, or_parts, and_parts, and_cases, cases_lt, false≢true}
use Rattle.std.specs.List.{best_of}
use Rattle.vault_types.specs.Lists.{has}
use Rattle.vault_types.specs.Plans.{next_use, goes_before}
use Rattle.belady_cache.proofs.Counts.{has_first, has_later}

-- an id that is requested no later than a near one is near
sooner_step : (b d : Bool) (p q : ℕ) (f g : Bool) → cond (not b) (1 + p) 0 ≤ cond (not d) (1 + q) 0 → (p ≤ q → f ≡ true → g ≡ true) → (d || f) ≡ true → (b || g) ≡ true
sooner_step true d p q f g le ih h = refl
sooner_step false true p q f g le ih h = absurd (omega arith)
sooner_step false false p q f g le ih h = ih (omega arith) h

sooner_is_near : (reqs : List ℕ) (k x e : ℕ) → next_use reqs x ≤ next_use reqs e → has e (take k reqs) ≡ true → has x (take k reqs) ≡ true
sooner_is_near [] zero x e le h = absurd (false≢true h)
sooner_is_near [] (suc k) x e le h = absurd (false≢true h)
sooner_is_near (r ∷ reqs) zero x e le h = absurd (false≢true h)
sooner_is_near (r ∷ reqs) (suc k) x e le h =
    sooner_step (eqb x r) (eqb e r) (next_use reqs x) (next_use reqs e) (has e (take k reqs)) (has x (take k reqs)) le
    (λ l n. sooner_is_near reqs k x e l n) h

-- x is requested sooner than e, or as late and its id is no lower
abbrev pub Sooner : List ℕ → ℕ → ℕ → Type 0
Sooner reqs x e = (next_use reqs x < next_use reqs e) ⊎ ((next_use reqs x ≡ next_use reqs e) × (e ≤ x))

-- of the present ids, e is the one to give up
pub record IsLast (reqs present : List ℕ) (e : ℕ) : Type 0 where
  pub held : has e present ≡ true
  pub last : (x : ℕ) → has x present ≡ true → Sooner reqs x e

sooner_self : (reqs : List ℕ) (x : ℕ) → Sooner reqs x x
sooner_self reqs x = inr (refl, omega arith)

sooner_chain : (p q r x y z : ℕ) → (p < q) ⊎ ((p ≡ q) × (y ≤ x)) → (q < r) ⊎ ((q ≡ r) × (z ≤ y)) → (p < r) ⊎ ((p ≡ r) × (z ≤ x))
sooner_chain p q r x y z (inl a) (inl b) = inl (omega arith)
sooner_chain p q r x y z (inl a) (inr b) = inl (omega arith)
sooner_chain p q r x y z (inr a) (inl b) = inl (omega arith)
sooner_chain p q r x y z (inr a) (inr b) = inr (omega arith, omega arith)

sooner_no_later : (p q x e : ℕ) → (p < q) ⊎ ((p ≡ q) × (e ≤ x)) → p ≤ q
sooner_no_later p q x e (inl h) = omega arith
sooner_no_later p q x e (inr h) = omega arith

sooner_both : (p q x y : ℕ) → (p < q) ⊎ ((p ≡ q) × (y ≤ x)) → (q < p) ⊎ ((q ≡ p) × (x ≤ y)) → x ≡ y
sooner_both p q x y (inl a) (inl b) = absurd (omega arith)
sooner_both p q x y (inl a) (inr b) = absurd (omega arith)
sooner_both p q x y (inr a) (inl b) = absurd (omega arith)
sooner_both p q x y (inr a) (inr b) = omega arith

-- it is the only one
pub last_is : (reqs present others : List ℕ) (d e : ℕ) → ((x : ℕ) → has x present ≡ true → has x others ≡ true) → ((x : ℕ) → has x others ≡ true → has x present ≡ true) → IsLast reqs present d → IsLast reqs others e → d ≡ e
last_is reqs present others d e there back p q =
    sooner_both (next_use reqs d) (next_use reqs e) d e (q.last d (there d p.held)) (p.last e (back e q.held))

goes_before_yes : (reqs : List ℕ) (a b : ℕ) → goes_before reqs a b ≡ true → Sooner reqs b a
goes_before_yes reqs a b e = elim (or_cases (ltb (next_use reqs b) (next_use reqs a)) _ e) [
  | inl lt ↦ inl (ltb-true _ _ lt)
  | inr tie ↦ inr (sym (eqb-true (next_use reqs a) (next_use reqs b) (and_parts _ _ tie).0), omega (arith, ltb-true a b (and_parts _ _ tie).1))
]

goes_before_no : (reqs : List ℕ) (a b : ℕ) → goes_before reqs a b ≡ false → Sooner reqs a b
goes_before_no reqs a b e = by (next_use reqs a) (next_use reqs b) (ltb-false (next_use reqs b) (next_use reqs a) (or_parts _ _ e).0) (and_cases _ _ (or_parts _ _ e).1)
  where
    by : (p q : ℕ) → p ≤ q → (eqb p q ≡ false) ⊎ (ltb a b ≡ false) → (p < q) ⊎ ((p ≡ q) × (b ≤ a))
    by p q le (inl ne) = inl (let apart : p ≢ q = eqb-false p q ne in omega arith)
    by p q le (inr not_lower) = elim (cases_lt p q) [ inl lt ↦ inl lt | inr ge ↦ inr (omega arith, ltb-false a b not_lower) ]

-- the best so far is the first or one of the others
best_has : (beats : ℕ → ℕ → Bool) (ids : List ℕ) (a : ℕ) → has (best_of beats a ids) (a ∷ ids) ≡ true
best_has beats [] a = has_first a []
best_has beats (y ∷ ids) a = go (beats y a) (best_has beats ids y) (best_has beats ids a)
  where
    skip : (b : ℕ) → has b (a ∷ ids) ≡ true → has b (a ∷ y ∷ ids) ≡ true
    skip b h = elim (or_cases (eqb b a) (has b ids) h) [
      | inl e ↦ ap (λ c. c || has b (y ∷ ids)) e
      | inr e ↦ has_later a (y ∷ ids) b (has_later y ids b e)
    ]

    go : (b : Bool) → has (best_of beats y ids) (y ∷ ids) ≡ true → has (best_of beats a ids) (a ∷ ids) ≡ true → has (best_of beats (cond b y a) ids) (a ∷ y ∷ ids) ≡ true
    go true first second = has_later a (y ∷ ids) (best_of beats y ids) first
    go false first second = skip (best_of beats a ids) second

best_from : (reqs ids : List ℕ) (a : ℕ) → Sooner reqs a (best_of (goes_before reqs) a ids)
best_from reqs [] a = sooner_self reqs a
best_from reqs (y ∷ ids) a = go (goes_before reqs y a) refl (best_from reqs ids y) (best_from reqs ids a)
  where
    go : (b : Bool) → goes_before reqs y a ≡ b → Sooner reqs y (best_of (goes_before reqs) y ids) → Sooner reqs a (best_of (goes_before reqs) a ids) → Sooner reqs a (best_of (goes_before reqs) (cond b y a) ids)
    go true e first second = sooner_chain _ _ _ a y _ (goes_before_yes reqs y a e) first
    go false e first second = second

best_last : (reqs ids : List ℕ) (a x : ℕ) → has x ids ≡ true → Sooner reqs x (best_of (goes_before reqs) a ids)
best_last reqs [] a x h = absurd (false≢true h)
best_last reqs (y ∷ ids) a x h =
    elim (or_cases (eqb x y) (has x ids) h) [
      | inl e ↦ subst (λ z. Sooner reqs z (best_of (goes_before reqs) (cond (goes_before reqs y a) y a) ids)) (sym (eqb-true x y e)) (go (goes_before reqs y a) refl (best_from reqs ids y) (best_from reqs ids a))
      | inr e ↦ best_last reqs ids (cond (goes_before reqs y a) y a) x e
    ]
  where
    go : (b : Bool) → goes_before reqs y a ≡ b → Sooner reqs y (best_of (goes_before reqs) y ids) → Sooner reqs a (best_of (goes_before reqs) a ids) → Sooner reqs y (best_of (goes_before reqs) (cond b y a) ids)
    go true e first second = first
    go false e first second = sooner_chain _ _ _ y a _ (goes_before_no reqs y a e) second

-- what `farthest` gives is the one that the rule means
pub best_is_last : (reqs ids : List ℕ) (a : ℕ) → IsLast reqs (a ∷ ids) (best_of (goes_before reqs) a ids)
best_is_last reqs ids a = record {
  held = best_has (goes_before reqs) ids a;
  last = λ x h. elim (or_cases (eqb x a) (has x ids) h) [
    | inl e ↦ subst (λ z. Sooner reqs z (best_of (goes_before reqs) a ids)) (sym (eqb-true x a e)) (best_from reqs ids a)
    | inr e ↦ best_last reqs ids a x e
  ];
}

-- where it is near, every present id is
pub last_near : (reqs present : List ℕ) (e k : ℕ) → IsLast reqs present e → has e (take k reqs) ≡ true → (x : ℕ) → has x present ≡ true → has x (take k reqs) ≡ true
last_near reqs present e k is near x h =
    sooner_is_near reqs k x e (sooner_no_later (next_use reqs x) (next_use reqs e) x e (is.last x h)) near

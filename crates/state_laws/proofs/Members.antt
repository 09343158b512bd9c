-- Elements of lists, of filters and of maps, and containers by their ids.
use Rattle.std.proofs.Common.{◌≡◌, ◌⊎◌, inl, inr, ⊎_elim, ℕ, zero, suc, ◌<◌, length, map, Bool, true, false, cond, ◌||◌, ◌&&◌, List, [], ◌∷◌, ◌++◌, Option, Some, None, refl, sym, ◌∙◌, ap, subst, arith}
use Rattle.std.specs.Prelude.{Contains, slice_index_or, filter, nat_eq, ◌==◌}
use Rattle.std.proofs.lemmas.Bool.Decides.{nat_tests}
use Rattle.std.proofs.lemmas.List.{map-append}
use Rattle.std.proofs.lemmas.List.Folds.{list_any-append, find-append}
use Rattle.std.proofs.lemmas.List.Elements.{All-contains, filter_passes}
use Rattle.std.specs.Option.{option_or}
use Rattle.vault_types.specs.Lists.{has}
use Rattle.vault_types.specs.Tables.{Container, id_of}
use Rattle.vault_types.specs.State.{container_in}

-- tests

pub or_right : (a b : Bool) → b ≡ true → (a || b) ≡ true
or_right true b h = refl
or_right false b h = h

pub or_left : (a b : Bool) → a ≡ true → (a || b) ≡ true
or_left true b h = refl
or_left false b h = absurd (let clash : false ≡ true = h in cc)

-- two tests that follow from each other are one
pub both_ways : (a b : Bool) → (a ≡ true → b ≡ true) → (b ≡ true → a ≡ true) → a ≡ b
both_ways true b f g = sym (f refl)
both_ways false true f g = g refl
both_ways false false f g = refl

pub clash : {A : Type 0} (b : Bool) → b ≡ true → b ≡ false → A
clash b is not_is = absurd (let e : true ≡ false = sym is ∙ not_is in cc)

-- elements

pub here : {X : Type 0} (x : X) (xs : List X) → Contains (x ∷ xs) x
here x xs = (0, omega arith, refl)

pub later : {X : Type 0} (x : X) (xs : List X) (y : X) → Contains xs y → Contains (x ∷ xs) y
later x xs y there = (suc there.0, omega (arith, there.1), there.2)

pub no_member : {X : Type 0} (x : X) → Contains [] x → ⊥
no_member x there = omega (arith, there.1)

pub first_or_rest : {X : Type 0} (x : X) (xs : List X) (y : X) → Contains (x ∷ xs) y → (x ≡ y) ⊎ Contains xs y
first_or_rest {X} x xs y there = at there.0 there.1 there.2
  where
    at : (k : ℕ) → k < length (x ∷ xs) → slice_index_or (x ∷ xs) k y ≡ y → (x ≡ y) ⊎ Contains xs y
    at zero low is = inl is
    at (suc k) low is = inr (k, omega arith, is)

-- of a filter

pub filter_contains : {X : Type 0} (p : X → Bool) (xs : List X) (x : X) → Contains xs x → p x ≡ true → Contains (filter p xs) x
filter_contains p [] x there passes = there
filter_contains {X} p (y ∷ ys) x there passes = ⊎_elim
    (λ (same : y ≡ x). subst (λ (b : Bool). Contains (cond b (y ∷ filter p ys) (filter p ys)) x) (sym (ap p same ∙ passes)) (subst (λ (z : X). Contains (z ∷ filter p ys) x) (sym same) (here x (filter p ys))))
    (λ rest. step (p y) (filter_contains p ys x rest passes))
    (first_or_rest y ys x there)
  where
    step : (b : Bool) → Contains (filter p ys) x → Contains (cond b (y ∷ filter p ys) (filter p ys)) x
    step true h = later y (filter p ys) x h
    step false h = h

pub filter_passed : {X : Type 0} (p : X → Bool) (xs : List X) (x : X) → Contains (filter p xs) x → p x ≡ true
filter_passed p xs x there = All-contains (λ x. p x ≡ true) (filter p xs) x (filter_passes p xs) there

pub filter_within : {X : Type 0} (p : X → Bool) (xs : List X) (x : X) → Contains (filter p xs) x → Contains xs x
filter_within p [] x there = there
filter_within {X} p (y ∷ ys) x there = step (p y) there (filter_within p ys x)
  where
    step : (b : Bool) → Contains (cond b (y ∷ filter p ys) (filter p ys)) x → (Contains (filter p ys) x → Contains ys x) → Contains (y ∷ ys) x
    step true h rest = ⊎_elim (λ (same : y ≡ x). subst (λ (z : X). Contains (z ∷ ys) x) (sym same) (here x ys)) (λ more. later y ys x (rest more)) (first_or_rest y (filter p ys) x h)
    step false h rest = later y ys x (rest h)

-- of a map into numbers

pub of_map : {X : Type 0} (f : X → ℕ) (xs : List X) (k : ℕ) → has k (map f xs) ≡ true → (x : X) × Contains xs x × (f x ≡ k)
of_map f [] k h = absurd (let e : false ≡ true = h in cc)
of_map {X} f (x ∷ xs) k h = step (nat_eq k (f x)) refl h (of_map f xs k)
  where
    step : (b : Bool) → nat_eq k (f x) ≡ b → (b || has k (map f xs)) ≡ true → (has k (map f xs) ≡ true → (y : X) × Contains xs y × (f y ≡ k)) → (y : X) × Contains (x ∷ xs) y × (f y ≡ k)
    step true e i rest = let same : f x ≡ k = grind (arith, nat_tests) in (x, here x xs, same)
    step false e i rest = let r = rest i in (r.0, later x xs r.0 r.1, r.2)

pub in_map : {X : Type 0} (f : X → ℕ) (xs : List X) (x : X) → Contains xs x → has (f x) (map f xs) ≡ true
in_map f [] x there = absurd (no_member x there)
in_map f (y ∷ ys) x there = ⊎_elim
    (λ (same : y ≡ x). or_left _ _ (equal (f x) (f y) (ap f (sym same))))
    (λ rest. or_right _ _ (in_map f ys x rest))
    (first_or_rest y ys x there)
  where
    equal : (a b : ℕ) → a ≡ b → nat_eq a b ≡ true
    equal a b e = grind (arith, nat_tests)

-- of a list of numbers

same_map : (ns : List ℕ) → map (λ n. n) ns ≡ ns
same_map [] = refl
same_map (n ∷ ns) = ap (λ ms. n ∷ ms) (same_map ns)

pub has_contained : (ns : List ℕ) (k : ℕ) → Contains ns k → has k ns ≡ true
has_contained ns k there = subst (λ (ms : List ℕ). has k ms ≡ true) (same_map ns) (in_map (λ n. n) ns k there)

pub contained : (ns : List ℕ) (k : ℕ) → has k ns ≡ true → Contains ns k
contained ns k h =
    let r = of_map (λ n. n) ns k (subst (λ (ms : List ℕ). has k ms ≡ true) (sym (same_map ns)) h) in
    subst (λ (n : ℕ). Contains ns n) r.2 r.1

pub has-append : (k : ℕ) (xs ys : List ℕ) → has k (xs ++ ys) ≡ (has k xs || has k ys)
has-append k xs ys = list_any-append (nat_eq k) xs ys

pub has-map_append : {X : Type 0} (f : X → ℕ) (k : ℕ) (xs ys : List X) → has k (map f (xs ++ ys)) ≡ (has k (map f xs) || has k (map f ys))
has-map_append f k xs ys = ap (has k) (map-append f xs ys) ∙ has-append k (map f xs) (map f ys)

pub has-filter : (k : ℕ) (p : ℕ → Bool) (ns : List ℕ) → has k (filter p ns) ≡ (p k && has k ns)
has-filter k p [] = elim (p k) as (λ b. false ≡ (b && false)) [ true ↦ refl | false ↦ refl ]
has-filter k p (n ∷ ns) = step (p n) (nat_eq k n) refl refl (has-filter k p ns)
  where
    step : (b c : Bool) → p n ≡ b → nat_eq k n ≡ c → has k (filter p ns) ≡ (p k && has k ns) → has k (cond b (n ∷ filter p ns) (filter p ns)) ≡ (p k && (nat_eq k n || has k ns))
    step true true e f h = let same : k ≡ n = grind (arith, nat_tests) in let pk : p k ≡ true = ap p same ∙ e in rw (f, pk)
    step true false e f h = rw f h
    step false true e f h = let same : k ≡ n = grind (arith, nat_tests) in let pk : p k ≡ false = ap p same ∙ e in h ∙ rw (pk)
    step false false e f h = rw f h

-- containers by their ids

pub container_in-append : (xs ys : List Container) (id : ℕ) → container_in (xs ++ ys) id ≡ option_or (container_in xs id) (container_in ys id)
container_in-append xs ys id = find-append (λ c. c.table.id == id) xs ys

pub container_in-none : (cs : List Container) (id : ℕ) → has id (map id_of cs) ≡ false → container_in cs id ≡ None
container_in-none [] id h = refl
container_in-none (c ∷ cs) id h = step (nat_eq id c.table.id) (c.table.id == id) refl refl h (container_in-none cs id)
  where
    step : (a b : Bool) → nat_eq id c.table.id ≡ a → (c.table.id == id) ≡ b → (a || has id (map id_of cs)) ≡ false → (has id (map id_of cs) ≡ false → container_in cs id ≡ None) → cond b (Some c) (container_in cs id) ≡ None
    step true b e f i rest = absurd (let g : true ≡ false = i in cc)
    step false true e f i rest = let same : c.table.id ≡ id = grind (arith, nat_tests) in clash (nat_eq id c.table.id) (let g : nat_eq id c.table.id ≡ true = grind (arith, nat_tests) in g) e
    step false false e f i rest = rest i

-- the container at an id is one of them, and has the id
pub container_in-is : (cs : List Container) (id : ℕ) (c : Container) → container_in cs id ≡ Some c → Contains cs c × (c.table.id ≡ id)
container_in-is [] id c is = absurd (let e : ◌≡◌ {A = Option Container} None (Some c) = is in cc)
container_in-is (d ∷ ds) id c is = step (d.table.id == id) refl is (container_in-is ds id c)
  where
    step : (b : Bool) → (d.table.id == id) ≡ b → cond b (Some d) (container_in ds id) ≡ Some c → (container_in ds id ≡ Some c → Contains ds c × (c.table.id ≡ id)) → Contains (d ∷ ds) c × (c.table.id ≡ id)
    step true e i rest =
        let same : d ≡ c = cc in
        let at : d.table.id ≡ id = grind (arith, nat_tests) in
        (subst (λ (x : Container). Contains (x ∷ ds) c) (sym same) (here c ds), ap id_of (sym same) ∙ at)
    step false e i rest = let r = rest i in (later d ds c r.0, r.1)

pub container_in-some : (cs : List Container) (id : ℕ) → has id (map id_of cs) ≡ true → (c : Container) × (container_in cs id ≡ Some c)
container_in-some [] id h = absurd (let e : false ≡ true = h in cc)
container_in-some (d ∷ ds) id h = step (nat_eq id d.table.id) (d.table.id == id) refl refl h (container_in-some ds id)
  where
    step : (a b : Bool) → nat_eq id d.table.id ≡ a → (d.table.id == id) ≡ b → (a || has id (map id_of ds)) ≡ true → (has id (map id_of ds) ≡ true → (c : Container) × (container_in ds id ≡ Some c)) → (c : Container) × (cond b (Some d) (container_in ds id) ≡ Some c)
    step a true e f i rest = (d, refl)
    step true false e f i rest = let same : id ≡ d.table.id = grind (arith, nat_tests) in clash (d.table.id == id) (let g : (d.table.id == id) ≡ true = grind (arith, nat_tests) in g) f
    step false false e f i rest = rest i

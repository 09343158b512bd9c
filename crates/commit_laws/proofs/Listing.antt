-- Lists of containers and of numbers: what holds of each element, what is among them, and what is found under an id.
use Rattle.std.proofs.Common.{◌≡◌, ◌≢◌, ℕ, zero, suc, ◌+◌, ◌<◌, ◌≤◌, Bool, true, false, cond, ◌||◌, length, map, max, List, [], ◌∷◌, ◌++◌, Option, Some, None, refl, sym, ap, ◌∙◌, subst, arith}
use Rattle.std.specs.Prelude.{Contains, slice_set, nat_eq, fold, ◌==◌}
use Rattle.std.specs.Option.{option_or}
use Rattle.std.specs.List.{AllByRecursion, range_with_len}
use Rattle.std.proofs.lemmas.Bool.Decides.{nat_tests}
use Rattle.std.proofs.lemmas.List.Elements.{All-from_recursion, All-contains, Contains-append_right}
use Rattle.std.proofs.lemmas.List.Folds.{find-append, list_any_at}
use Rattle.vault_types.specs.Lists.{has, IsAscending}
use Rattle.vault_types.specs.Tables.{Container, id_of}
use Rattle.vault_types.specs.State.{container_in}

-- each element

pub all_append : {X : Type 0} (P : X → Type 0) (xs ys : List X) → AllByRecursion P xs → AllByRecursion P ys → AllByRecursion P (xs ++ ys)
all_append P [] ys one two = two
all_append P (x ∷ xs) ys one two = (one.0, all_append P xs ys one.1 two)

pub all_left : {X : Type 0} (P : X → Type 0) (xs ys : List X) → AllByRecursion P (xs ++ ys) → AllByRecursion P xs
all_left P [] ys all = tt
all_left P (x ∷ xs) ys all = (all.0, all_left P xs ys all.1)

pub all_right : {X : Type 0} (P : X → Type 0) (xs ys : List X) → AllByRecursion P (xs ++ ys) → AllByRecursion P ys
all_right P [] ys all = all
all_right P (x ∷ xs) ys all = all_right P xs ys all.1

pub all_set : {X : Type 0} (P : X → Type 0) (xs : List X) (i : ℕ) (x : X) → AllByRecursion P xs → P x → AllByRecursion P (slice_set xs i x)
all_set P [] i x all p = tt
all_set P (y ∷ xs) zero x all p = (p, all.1)
all_set P (y ∷ xs) (suc i) x all p = (all.0, all_set P xs i x all.1 p)

pub all_weaker : {X : Type 0} (P Q : X → Type 0) (xs : List X) → ((x : X) → P x → Q x) → AllByRecursion P xs → AllByRecursion Q xs
all_weaker P Q [] f all = tt
all_weaker P Q (x ∷ xs) f all = (f x all.0, all_weaker P Q xs f all.1)

pub all_both : {X : Type 0} (P Q R : X → Type 0) (xs : List X) → ((x : X) → P x → Q x → R x) → AllByRecursion P xs → AllByRecursion Q xs → AllByRecursion R xs
all_both P Q R [] f p q = tt
all_both P Q R (x ∷ xs) f p q = (f x p.0 q.0, all_both P Q R xs f p.1 q.1)

pub all_unmap : {X Y : Type 0} (f : X → Y) (P : Y → Type 0) (xs : List X) → AllByRecursion P (map f xs) → AllByRecursion (λ x. P (f x)) xs
all_unmap f P [] all = tt
all_unmap f P (x ∷ xs) all = (all.0, all_unmap f P xs all.1)

pub all_map : {X Y : Type 0} (f : X → Y) (P : Y → Type 0) (xs : List X) → AllByRecursion (λ x. P (f x)) xs → AllByRecursion P (map f xs)
all_map f P [] all = tt
all_map f P (x ∷ xs) all = (all.0, all_map f P xs all.1)

pub all_at : {X : Type 0} (P : X → Type 0) (xs : List X) (x : X) → AllByRecursion P xs → Contains xs x → P x
all_at P xs x all there = All-contains P xs x (All-from_recursion P xs all) there

pub first_of_list : {X : Type 0} (x : X) (xs : List X) → Contains (x ∷ xs) x
first_of_list x xs = (zero, omega arith, refl)

pub later_of_list : {X : Type 0} (y : X) (xs : List X) (x : X) → Contains xs x → Contains (y ∷ xs) x
later_of_list y xs x there = Contains-append_right (y ∷ []) xs x there

pub no_member : {X : Type 0} (x : X) → Contains [] x → ⊥
no_member x there = omega (arith, there.1)

pub all_of : {X : Type 0} (P : X → Type 0) (xs : List X) → ((x : X) → Contains xs x → P x) → AllByRecursion P xs
all_of P [] each = tt
all_of P (x ∷ xs) each = (each x (first_of_list x xs), all_of P xs (λ y there. each y (later_of_list x xs y there)))

pub themselves : {X : Type 0} (xs : List X) → AllByRecursion (Contains xs) xs
themselves xs = all_of (Contains xs) xs (λ x there. there)

-- numbers that are there

pub same_number : (k n : ℕ) → nat_eq k n ≡ true → n ≡ k
same_number k n e = grind (arith, nat_tests)

pub itself : (k : ℕ) → nat_eq k k ≡ true
itself k = grind (arith, nat_tests)

pub has_of : (k : ℕ) (ns : List ℕ) → Contains ns k → has k ns ≡ true
has_of k ns there = list_any_at (nat_eq k) ns there.0 k there.1 (ap (nat_eq k) there.2 ∙ itself k)

pub contains_of : (k : ℕ) (ns : List ℕ) → has k ns ≡ true → Contains ns k
contains_of k [] h = absurd (let clash : false ≡ true = h in cc)
contains_of k (n ∷ ns) h = step (nat_eq k n) refl h (contains_of k ns)
  where
    step : (b : Bool) → nat_eq k n ≡ b → (b || has k ns) ≡ true → (has k ns ≡ true → Contains ns k) → Contains (n ∷ ns) k
    step true e i rest = subst (λ (m : ℕ). Contains (m ∷ ns) k) (sym (same_number k n e)) (first_of_list k ns)
    step false e i rest = later_of_list n ns k (rest i)

pub has_both : (k : ℕ) (ms ns : List ℕ) → (has k ms ≡ true → has k ns ≡ true) → (has k ns ≡ true → has k ms ≡ true) → has k ms ≡ has k ns
has_both k ms ns f g = step (has k ms) (has k ns) f g
  where
    step : (a b : Bool) → (a ≡ true → b ≡ true) → (b ≡ true → a ≡ true) → a ≡ b
    step true b f g = sym (f refl)
    step false true f g = g refl
    step false false f g = refl

-- ascending numbers

pub ascending_append : (a : ℕ) (xs ys : List ℕ) → IsAscending xs → IsAscending ys → AllByRecursion (λ m. m < a) xs → AllByRecursion (λ m. a ≤ m) ys → IsAscending (xs ++ ys)
ascending_append a [] ys one two low high = two
ascending_append a (x ∷ xs) ys one two low high = (
  all_append (λ m. x < m) xs ys one.0 (all_weaker (λ m. a ≤ m) (λ m. x < m) ys (λ m h. omega (arith, h, low.0)) high),
  ascending_append a xs ys one.1 two low.1 high,
)

pub range_low : (a n : ℕ) → AllByRecursion (λ m. a ≤ m) (range_with_len a n)
range_low a zero = tt
range_low a (suc n) = (omega arith, all_weaker (λ m. a + 1 ≤ m) (λ m. a ≤ m) (range_with_len (a + 1) n) (λ m h. omega (arith, h)) (range_low (a + 1) n))

pub range_high : (a n : ℕ) → AllByRecursion (λ m. m < a + n) (range_with_len a n)
range_high a zero = tt
range_high a (suc n) = (omega arith, all_weaker (λ m. m < (a + 1) + n) (λ m. m < a + suc n) (range_with_len (a + 1) n) (λ m h. omega (arith, h)) (range_high (a + 1) n))

pub range_ascends : (a n : ℕ) → IsAscending (range_with_len a n)
range_ascends a zero = tt
range_ascends a (suc n) = (all_weaker (λ m. a + 1 ≤ m) (λ m. a < m) (range_with_len (a + 1) n) (λ m h. omega (arith, h)) (range_low (a + 1) n), range_ascends (a + 1) n)

-- what is found under an id

pub some_same : {X : Type 0} (x y : X) → ◌≡◌ {A = Option X} (Some x) (Some y) → x ≡ y
some_same x y e = cc

pub none_some : {X : Type 0} (x : X) → ◌≡◌ {A = Option X} None (Some x) → ⊥
none_some x e = cc

pub found_append : (xs ys : List Container) (id : ℕ) → container_in (xs ++ ys) id ≡ option_or (container_in xs id) (container_in ys id)
found_append xs ys id = find-append (λ c. c.table.id == id) xs ys

pub found_is : (cs : List Container) (id : ℕ) (c : Container) → container_in cs id ≡ Some c → Contains cs c × (c.table.id ≡ id)
found_is [] id c e = absurd (none_some c e)
found_is (d ∷ cs) id c e = step (d.table.id == id) refl e (found_is cs id c)
  where
    step : (b : Bool) → (d.table.id == id) ≡ b → cond b (Some d) (container_in cs id) ≡ Some c → (container_in cs id ≡ Some c → Contains cs c × (c.table.id ≡ id)) → Contains (d ∷ cs) c × (c.table.id ≡ id)
    step true t i rest =
        let same = some_same d c i in
        let number : d.table.id ≡ id = grind (arith, nat_tests) in
        (subst (λ (x : Container). Contains (d ∷ cs) x) same (first_of_list d cs), ap id_of (sym same) ∙ number)
    step false t i rest = let there = rest i in (later_of_list d cs c there.0, there.1)

pub none_where : (cs : List Container) (id : ℕ) → AllByRecursion (λ c. c.table.id ≢ id) cs → container_in cs id ≡ None
none_where [] id all = refl
none_where (d ∷ cs) id all = let no : (d.table.id == id) ≡ false = other d.table.id id all.0 in ap (λ b. cond b (Some d) (container_in cs id)) no ∙ none_where cs id all.1
  where
    other : (a b : ℕ) → a ≢ b → (a == b) ≡ false
    other a b apart = grind (arith, nat_tests)

pub found_each : (cs : List Container) → IsAscending (map id_of cs) → AllByRecursion (λ c. container_in cs c.table.id ≡ Some c) cs
found_each [] up = tt
found_each (d ∷ cs) up = (
  ap (λ b. cond b (Some d) (container_in cs d.table.id)) (same d.table.id),
  all_both (λ c. d.table.id < c.table.id) (λ c. container_in cs c.table.id ≡ Some c) (λ c. container_in (d ∷ cs) c.table.id ≡ Some c) cs
      (λ c less there. ap (λ b. cond b (Some d) (container_in cs c.table.id)) (below d.table.id c.table.id less) ∙ there)
      (all_unmap id_of (λ m. d.table.id < m) cs up.0) (found_each cs up.1),
)
  where
    same : (a : ℕ) → (a == a) ≡ true
    same a = grind (arith, nat_tests)

    below : (a b : ℕ) → a < b → (a == b) ≡ false
    below a b less = grind (arith, nat_tests)

-- of ascending containers, each is found under its id
pub found_where : (cs : List Container) (c : Container) → IsAscending (map id_of cs) → Contains cs c → container_in cs c.table.id ≡ Some c
found_where cs c up there = all_at (λ c. container_in cs c.table.id ≡ Some c) cs c (found_each cs up) there

-- the greatest of some numbers

pub fold_below : (a x : ℕ) (ns : List ℕ) → fold max a ns ≤ x → (a ≤ x) × AllByRecursion (λ n. n ≤ x) ns
fold_below a x [] h = (h, tt)
fold_below a x (n ∷ ns) h = let rest = fold_below (max a n) x ns h in (omega (arith, rest.0), (omega (arith, rest.0), rest.1))

fold_full : (a x : ℕ) (ns : List ℕ) → a ≡ x → AllByRecursion (λ n. n ≤ x) ns → fold max a ns ≡ x
fold_full a x [] is all = is
fold_full a x (n ∷ ns) is all = fold_full (max a n) x ns (omega (arith, is, all.0)) all.1

pub fold_set : (a x : ℕ) (ns : List ℕ) (s : ℕ) → s < length ns → a ≤ x → AllByRecursion (λ n. n ≤ x) ns → fold max a (slice_set ns s x) ≡ x
fold_set a x [] s below low all = absurd (omega arith)
fold_set a x (n ∷ ns) zero below low all = fold_full (max a x) x ns (omega arith) all.1
fold_set a x (n ∷ ns) (suc s) below low all = fold_set (max a n) x ns s (omega arith) (omega (arith, all.0)) all.1

-- Two lists that are in one order and have the same numbers, each once, are equal.
use Rattle.std.proofs.Common.{◌≡◌, ℕ, ◌<◌, Bool, true, false, cond, ◌||◌, List, [], ◌∷◌, refl, sym, ap, ◌∙◌, subst, arith}
use Rattle.std.specs.Prelude.{nat_eq}
use Rattle.std.specs.List.{AllByRecursion}
use Rattle.std.proofs.lemmas.Bool.Decides.{nat_tests}
use Rattle.vault_types.specs.Lists.{has, insert_by, sorted_by, set_of, IsAscending}
use Rattle.vault_types.proofs.SetLemmas.{IsAscending-set_of}

-- before is the test of an order on the numbers with P, in which no two of them tie
pub record IsRank (P : ℕ → Type 0) (before : ℕ → ℕ → Bool) : Type 0 where
  pub one_way : (x y : ℕ) → P x → P y → before x y ≡ true → before y x ≡ false
  pub chain : (x y z : ℕ) → P x → P y → P z → before x y ≡ false → before y z ≡ false → before x z ≡ false
  pub apart : (x y : ℕ) → P x → P y → before x y ≡ false → before y x ≡ false → x ≡ y

-- no number goes before one that stands before it
abbrev pub IsRanked : (ℕ → ℕ → Bool) → List ℕ → Type 0
IsRanked before [] = Unit {0}
IsRanked before (x ∷ xs) = AllByRecursion (λ y. before y x ≡ false) xs × IsRanked before xs

-- no number is there twice
abbrev pub IsOnce : List ℕ → Type 0
IsOnce [] = Unit {0}
IsOnce (x ∷ xs) = (has x xs ≡ false) × IsOnce xs

or_swap : (a b c : Bool) → (a || (b || c)) ≡ (b || (a || c))
or_swap true true c = refl
or_swap true false c = refl
or_swap false b c = refl

pub has-insert_by : (before : ℕ → ℕ → Bool) (k x : ℕ) (xs : List ℕ) → has k (insert_by before x xs) ≡ (nat_eq k x || has k xs)
has-insert_by before k x [] = refl
has-insert_by before k x (y ∷ ys) = step (before y x) (has-insert_by before k x ys)
  where
    step : (b : Bool) → has k (insert_by before x ys) ≡ (nat_eq k x || has k ys) → has k (cond b (y ∷ insert_by before x ys) (x ∷ y ∷ ys)) ≡ (nat_eq k x || has k (y ∷ ys))
    step true h = ap (λ b. nat_eq k y || b) h ∙ or_swap (nat_eq k y) (nat_eq k x) (has k ys)
    step false h = refl

pub has-sorted_by : (before : ℕ → ℕ → Bool) (k : ℕ) (xs : List ℕ) → has k (sorted_by before xs) ≡ has k xs
has-sorted_by before k [] = refl
has-sorted_by before k (x ∷ xs) = has-insert_by before k x (sorted_by before xs) ∙ ap (λ b. nat_eq k x || b) (has-sorted_by before k xs)

all-insert_by : (Q : ℕ → Type 0) (before : ℕ → ℕ → Bool) (x : ℕ) (xs : List ℕ) → Q x → AllByRecursion Q xs → AllByRecursion Q (insert_by before x xs)
all-insert_by Q before x [] q h = (q, tt)
all-insert_by Q before x (y ∷ ys) q h = step (before y x) (all-insert_by Q before x ys q h.1)
  where
    step : (b : Bool) → AllByRecursion Q (insert_by before x ys) → AllByRecursion Q (cond b (y ∷ insert_by before x ys) (x ∷ y ∷ ys))
    step true i = (h.0, i)
    step false i = (q, h)

pub all-sorted_by : (Q : ℕ → Type 0) (before : ℕ → ℕ → Bool) (xs : List ℕ) → AllByRecursion Q xs → AllByRecursion Q (sorted_by before xs)
all-sorted_by Q before [] h = tt
all-sorted_by Q before (x ∷ xs) h = all-insert_by Q before x (sorted_by before xs) h.0 (all-sorted_by Q before xs h.1)

module _ (P : ℕ → Type 0) (before : ℕ → ℕ → Bool) (rank : IsRank P before) where
  all_behind : (x y : ℕ) (ys : List ℕ) → P x → P y → AllByRecursion P ys → before y x ≡ false → AllByRecursion (λ z. before z y ≡ false) ys → AllByRecursion (λ z. before z x ≡ false) ys
  all_behind x y [] p q h e i = tt
  all_behind x y (z ∷ zs) p q h e i = (rank.chain z y x h.0 q p i.0 e, all_behind x y zs p q h.1 e i.1)

  ranked-insert_by : (x : ℕ) (xs : List ℕ) → P x → AllByRecursion P xs → IsRanked before xs → IsRanked before (insert_by before x xs)
  ranked-insert_by x [] p h i = (tt, tt)
  ranked-insert_by x (y ∷ ys) p h i = step (before y x) refl (ranked-insert_by x ys p h.1 i.1)
    where
      step : (b : Bool) → before y x ≡ b → IsRanked before (insert_by before x ys) → IsRanked before (cond b (y ∷ insert_by before x ys) (x ∷ y ∷ ys))
      step true e j = (all-insert_by (λ z. before z y ≡ false) before x ys (rank.one_way y x h.0 p e) i.0, j)
      step false e j = ((e, all_behind x y ys p h.0 h.1 e i.0), i)

  pub ranked-sorted_by : (xs : List ℕ) → AllByRecursion P xs → IsRanked before (sorted_by before xs)
  ranked-sorted_by [] h = tt
  ranked-sorted_by (x ∷ xs) h = ranked-insert_by x (sorted_by before xs) h.0 (all-sorted_by P before xs h.1) (ranked-sorted_by xs h.1)

  -- a number of the list is its first, or the first is not behind it
  first_or_behind : (x y : ℕ) (xs : List ℕ) → AllByRecursion (λ z. before z x ≡ false) xs → P x → has y (x ∷ xs) ≡ true → before x x ≡ false → before y x ≡ false
  first_or_behind x y xs h p e self = step (nat_eq y x) refl e
    where
      in_rest : (zs : List ℕ) → AllByRecursion (λ z. before z x ≡ false) zs → has y zs ≡ true → before y x ≡ false
      in_rest [] i f = cc
      in_rest (z ∷ zs) i f = pick (nat_eq y z) refl f (in_rest zs i.1)
        where
          pick : (b : Bool) → nat_eq y z ≡ b → (b || has y zs) ≡ true → (has y zs ≡ true → before y x ≡ false) → before y x ≡ false
          pick true t f j = let same : y ≡ z = grind (arith, nat_tests) in subst (λ w. before w x ≡ false) (sym same) i.0
          pick false t f j = j f

      step : (b : Bool) → nat_eq y x ≡ b → (b || has y xs) ≡ true → before y x ≡ false
      step true t f = let same : y ≡ x = grind (arith, nat_tests) in subst (λ w. before w x ≡ false) (sym same) self
      step false t f = in_rest xs h f

  self_false : (x : ℕ) → P x → before x x ≡ false
  self_false x p = step (before x x) refl
    where
      step : (b : Bool) → before x x ≡ b → b ≡ false
      step true e = let no : before x x ≡ false = rank.one_way x x p p e in cc
      step false e = refl

  has_first : (x : ℕ) (xs : List ℕ) → has x (x ∷ xs) ≡ true
  has_first x xs = let e : nat_eq x x ≡ true = grind (arith, nat_tests) in rw e refl

  rest_same : (k x y : ℕ) (xs ys : List ℕ) → x ≡ y → has x xs ≡ false → has y ys ≡ false → has k (x ∷ xs) ≡ has k (y ∷ ys) → has k xs ≡ has k ys
  rest_same k x y xs ys e h i same = step (nat_eq k x) refl
    where
      step : (b : Bool) → nat_eq k x ≡ b → has k xs ≡ has k ys
      step true t =
          let kx : k ≡ x = grind (arith, nat_tests) in
          let ky : k ≡ y = kx ∙ e in
          subst (λ w. has w xs ≡ false) (sym kx) h ∙ sym (subst (λ w. has w ys ≡ false) (sym ky) i)
      step false t =
          let u : nat_eq k y ≡ false = ap (nat_eq k) (sym e) ∙ t in
          let l : has k (x ∷ xs) ≡ has k xs = ap (λ b. b || has k xs) t in
          let r : has k (y ∷ ys) ≡ has k ys = ap (λ b. b || has k ys) u in
          sym l ∙ same ∙ r

  pub ranked_unique : (xs ys : List ℕ) → AllByRecursion P xs → AllByRecursion P ys → IsRanked before xs → IsRanked before ys → IsOnce xs → IsOnce ys → ((k : ℕ) → has k xs ≡ has k ys) → xs ≡ ys
  ranked_unique [] [] p q h i o u same = refl
  ranked_unique [] (y ∷ ys) p q h i o u same = let clash : false ≡ true = same y ∙ has_first y ys in cc
  ranked_unique (x ∷ xs) [] p q h i o u same = let clash : true ≡ false = sym (has_first x xs) ∙ same x in cc
  ranked_unique (x ∷ xs) (y ∷ ys) p q h i o u same =
      let down : before y x ≡ false = first_or_behind x y xs h.0 p.0 (same y ∙ has_first y ys) (self_false x p.0) in
      let up : before x y ≡ false = first_or_behind y x ys i.0 q.0 (sym (same x) ∙ has_first x xs) (self_false y q.0) in
      let e : x ≡ y = rank.apart x y p.0 q.0 up down in
      ap (λ z. z ∷ xs) e ∙ ap (λ zs. y ∷ zs) (ranked_unique xs ys p.1 q.1 h.1 i.1 o.1 u.1 (λ k. rest_same k x y xs ys e o.0 u.0 (same k)))

-- a sorted list has each number once, where the list that it was made of has

once-insert_by : (before : ℕ → ℕ → Bool) (x : ℕ) (xs : List ℕ) → has x xs ≡ false → IsOnce xs → IsOnce (insert_by before x xs)
once-insert_by before x [] e h = (refl, tt)
once-insert_by before x (y ∷ ys) e h = step (before y x) (nat_eq x y) refl e (λ f. once-insert_by before x ys f h.1)
  where
    step : (b c : Bool) → nat_eq x y ≡ c → (c || has x ys) ≡ false → (has x ys ≡ false → IsOnce (insert_by before x ys)) → IsOnce (cond b (y ∷ insert_by before x ys) (x ∷ y ∷ ys))
    step true true t f i = cc
    step false true t f i = cc
    step true false t f i =
        let other : nat_eq y x ≡ false = grind (arith, nat_tests) in
        (has-insert_by before y x ys ∙ ap (λ b. b || has y ys) other ∙ h.0, i f)
    step false false t f i = (ap (λ b. b || has x ys) t ∙ f, h)

pub once-sorted_by : (before : ℕ → ℕ → Bool) (xs : List ℕ) → IsOnce xs → IsOnce (sorted_by before xs)
once-sorted_by before [] h = tt
once-sorted_by before (x ∷ xs) h = once-insert_by before x (sorted_by before xs) (has-sorted_by before x xs ∙ h.0) (once-sorted_by before xs h.1)

once-above : (x : ℕ) (xs : List ℕ) → AllByRecursion (λ y. x < y) xs → has x xs ≡ false
once-above x [] h = refl
once-above x (y ∷ ys) h = let e : nat_eq x y ≡ false = grind (arith, nat_tests, h.0) in rw e (once-above x ys h.1)

pub once-ascending : (xs : List ℕ) → IsAscending xs → IsOnce xs
once-ascending [] h = tt
once-ascending (x ∷ xs) h = (once-above x xs h.0, once-ascending xs h.1)

pub once-set_of : (ns : List ℕ) → IsOnce (set_of ns)
once-set_of ns = once-ascending (set_of ns) (IsAscending-set_of ns)

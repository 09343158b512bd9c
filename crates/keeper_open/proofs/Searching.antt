-- What a search among the names that a shelf lists finds.
use Rattle.std.proofs.Common.{◌≡◌, ◌⊎◌, inl, inr, ⊎_elim, ℕ, zero, suc, ◌+◌, ◌-◌, ◌*◌, ◌^◌, ◌<◌, ◌≤◌, Bool, true, false, List, [], ◌∷◌, length, get_or, Option, Some, None, refl, sym, ap, subst, ◌∙◌, arith, ◌||◌}
use Rattle.std.specs.Prelude.{IsSome, IfSome, IfNone, is_some, is_ok, Result, Ok, Err}
use Rattle.std.specs.List.{list_any, HoldsAt}
use Rattle.std.specs.List.Sorted.{IsStrictlySortedBy, IsNonDecreasingBy, IsPartitionPoint, IsBinarySearchResult, IsSearchInRange}
use Rattle.std.specs.Ordering.{ordering_reverse, nat_cmp, eq_by_cmp, ordering_then, ordering_index, is_lt, is_eq, MatchOrdering}
use Rattle.std.specs.declared.cmp.Ordering.{Ordering}
use Rattle.std.specs.declared.cmp.Ordering.TheVariants.{Less, Equal, Greater}
use Rattle.std.proofs.lemmas.Cmp.{ranked, tied_back, tied_itself}
use Rattle.std.proofs.lemmas.List.Sorted.{searchable_from_sorted}
use Rattle.std.proofs.lemmas.Map.Keys.{Less-from_sorted}
use Rattle.std.proofs.lemmas.Bool.{cases_lt}
use Rattle.std.specs.FinMap as fin
use Rattle.vault_types.specs.declared.Name.{Name}
use Rattle.vault_types.specs.declared.Kind.{Kind}
use Rattle.vault_types.specs.declared.Kind.TheVariants as kind
use Rattle.vault_types.specs.contracts.NameOrd.TheImpl.{cmp-value}
use Rattle.vault_types.specs.Shelf.{Blobs, kind_rank, name_cmp, recipe_name}
use Rattle.vault_traits.specs.Shelf.{IsListing}
use Rattle.vault_traits.proofs.Maps.{names_total, exact_names}
use Rattle.keeper_open.specs.Reading.{IsLastListed, IsLastDue}

-- the derived order of names is `name_cmp`

abbrev derived : Name → Name → Ordering
derived = cmp-value.it

by_kind : (a b : Kind) (m n : ℕ) → derived (record { kind = a; number = m }) (record { kind = b; number = n }) ≡ name_cmp (record { kind = a; number = m }) (record { kind = b; number = n })
by_kind kind.Table kind.Table m n = refl
by_kind kind.Table kind.Payload m n = refl
by_kind kind.Table kind.Recipe m n = refl
by_kind kind.Table kind.Floor m n = refl
by_kind kind.Payload kind.Table m n = refl
by_kind kind.Payload kind.Payload m n = refl
by_kind kind.Payload kind.Recipe m n = refl
by_kind kind.Payload kind.Floor m n = refl
by_kind kind.Recipe kind.Table m n = refl
by_kind kind.Recipe kind.Payload m n = refl
by_kind kind.Recipe kind.Recipe m n = refl
by_kind kind.Recipe kind.Floor m n = refl
by_kind kind.Floor kind.Table m n = refl
by_kind kind.Floor kind.Payload m n = refl
by_kind kind.Floor kind.Recipe m n = refl
by_kind kind.Floor kind.Floor m n = refl

derived_is : derived ≡ name_cmp
derived_is i a b = by_kind a.kind b.kind a.number b.number i

as_names : (x : Name) (names : List Name) (r : Result ℕ ℕ) → IsBinarySearchResult (λ y. derived y x) names r → IsBinarySearchResult (λ y. name_cmp y x) names r
as_names x names r h = subst (λ (R : Name → Name → Ordering). IsBinarySearchResult (λ y. R y x) names r) derived_is h

-- searches in a strictly sorted list

rises : (names : List Name) (x : Name) → IsStrictlySortedBy name_cmp names → IsNonDecreasingBy (λ y. ordering_index (name_cmp y x)) names
rises names x up = searchable_from_sorted names_total (λ (n : Name). n) names x (λ k d low high. adjacent k d high)
  where
    adjacent : (k : ℕ) (d : Name) → k + 1 < length names → is_lt (name_cmp (get_or names (k + 1) d) (get_or names k d)) ≡ false
    adjacent k d high = ap is_lt (names_total.antisymm (get_or names (k + 1) d) (get_or names k d) ∙ ap ordering_reverse (Less-from_sorted name_cmp names k (k + 1) d up (omega arith) high))

none_pass : (test : Name → Bool) (d : Name) (names : List Name) → ((k : ℕ) → k < length names → test (get_or names k d) ≡ false) → list_any test names ≡ false
none_pass test d [] each = refl
none_pass test d (n ∷ names) each = ap (λ b. b || list_any test names) (each 0 (omega arith)) ∙ none_pass test d names (λ k below. each (suc k) (omega arith))

one_passes : (test : Name → Bool) (d : Name) (names : List Name) (k : ℕ) → k < length names → test (get_or names k d) ≡ true → list_any test names ≡ true
one_passes test d [] k below is = absurd (omega arith)
one_passes test d (n ∷ names) zero below is = ap (λ b. b || list_any test names) is
one_passes test d (n ∷ names) (suc k) below is = either (test n) (one_passes test d names k (omega arith) is)
  where
    either : (b : Bool) → list_any test names ≡ true → (b || list_any test names) ≡ true
    either true h = refl
    either false h = h

pub some_passes : (test : Name → Bool) (d : Name) (names : List Name) → list_any test names ≡ true → (k : ℕ) × (k < length names) × (test (get_or names k d) ≡ true)
some_passes test d [] is = absurd cc
some_passes test d (n ∷ names) is = by_test (λ h. some_passes test d names h) (test n) refl is
  where
    by_test : (list_any test names ≡ true → (k : ℕ) × (k < length names) × (test (get_or names k d) ≡ true)) → (b : Bool) → test n ≡ b → (b || list_any test names) ≡ true
        → (k : ℕ) × (k < suc (length names)) × (test (get_or (n ∷ names) k d) ≡ true)
    by_test rest true e h = (0, omega arith, e)
    by_test rest false e h = let found = rest h in (suc found.0, omega (arith, found.1), found.2)

not_equal : (a b : Name) → name_cmp a b ≡ Less → eq_by_cmp name_cmp b a ≡ false
not_equal a b less = ap is_eq (names_total.antisymm b a ∙ ap ordering_reverse less)

not_equal_up : (a b : Name) → name_cmp a b ≡ Greater → eq_by_cmp name_cmp b a ≡ false
not_equal_up a b more = ap is_eq (names_total.antisymm b a ∙ ap ordering_reverse more)

-- the search says whether the name is there
pub found_member : (names : List Name) (x : Name) (r : Result ℕ ℕ) → IsStrictlySortedBy name_cmp names → IsSearchInRange r (length names) → IsBinarySearchResult (λ y. name_cmp y x) names r
    → is_ok r ≡ list_any (eq_by_cmp name_cmp x) names
found_member names x (Ok i) up range is = sym (one_passes (eq_by_cmp name_cmp x) x names i range (ap is_eq (tied_back names_total (get_or names i x) x (is x))))
found_member names x (Err i) up range is = sym (none_pass (eq_by_cmp name_cmp x) x names each)
  where
    parts : IsPartitionPoint (λ y. name_cmp y x ≡ Less) (λ y. name_cmp y x ≡ Greater) names i
    parts = is (rises names x up)

    each : (k : ℕ) → k < length names → eq_by_cmp name_cmp x (get_or names k x) ≡ false
    each k below = ⊎_elim
        (λ low. not_equal (get_or names k x) x (parts.0 k x (omega arith) low))
        (λ high. not_equal_up (get_or names k x) x (parts.1 k x high below))
        (cases_lt k i)

same_default : (names : List Name) (k : ℕ) (c d : Name) → k < length names → get_or names k c ≡ get_or names k d
same_default [] k c d below = absurd (omega arith)
same_default (n ∷ names) zero c d below = refl
same_default (n ∷ names) (suc k) c d below = same_default names k c d (omega arith)

-- the order of names

less_then : (x y m n : ℕ) (r s : Ordering) → MatchOrdering r (x < y) (x ≡ y) (y < x) → MatchOrdering s (m < n) (m ≡ n) (n < m) → ordering_then r s ≡ Less → (x < y) ⊎ ((x ≡ y) × (m < n))
less_then x y m n Less s h i e = inl h
less_then x y m n Equal Less h i e = inr (h, i)
less_then x y m n Equal Equal h i e = absurd cc
less_then x y m n Equal Greater h i e = absurd cc
less_then x y m n Greater s h i e = absurd cc

less_is : (a b : Name) → name_cmp a b ≡ Less → (kind_rank a.kind < kind_rank b.kind) ⊎ ((kind_rank a.kind ≡ kind_rank b.kind) × (a.number < b.number))
less_is a b e =
    less_then (kind_rank a.kind) (kind_rank b.kind) a.number b.number (nat_cmp (kind_rank a.kind) (kind_rank b.kind)) (nat_cmp a.number b.number)
    (ranked (kind_rank a.kind) (kind_rank b.kind) _ refl) (ranked a.number b.number _ refl) e

more_is : (a b : Name) → name_cmp a b ≡ Greater → (kind_rank b.kind < kind_rank a.kind) ⊎ ((kind_rank b.kind ≡ kind_rank a.kind) × (b.number < a.number))
more_is a b e = less_is b a (names_total.antisymm b a ∙ ap ordering_reverse e)

kind_is : (k : Kind) → kind_rank k ≡ 2 → k ≡ kind.Recipe
kind_is kind.Table e = absurd (omega arith)
kind_is kind.Payload e = absurd (omega arith)
kind_is kind.Recipe e = refl
kind_is kind.Floor e = absurd (omega arith)

pub is_equal : (o : Ordering) → is_eq o ≡ true → o ≡ Equal
is_equal Less e = absurd cc
is_equal Equal e = refl
is_equal Greater e = absurd cc

module _ (m : Blobs) (names : List Name) (listing : IsListing m names) where
  -- a name that stands at no place is not there
  absent_unless : (n : Name) → ((k : ℕ) → k < length names → get_or names k n ≡ n → ⊥) → fin.get m n ≡ None
  absent_unless n nowhere = by_found (fin.get m n) refl
    where
      by_found : (o : Option (List ℕ)) → fin.get m n ≡ o → o ≡ None
      by_found None is = refl
      by_found (Some bytes) is =
          let found = some_passes (eq_by_cmp name_cmp n) n names (listing.exact n ∙ ap is_some is) in
          absurd (nowhere found.0 found.1 (sym (exact_names n (get_or names found.0 n) (is_equal (name_cmp n (get_or names found.0 n)) found.2))))

  pub present : (n : Name) (k : ℕ) → k < length names → get_or names k n ≡ n → IsSome (fin.get m n)
  present n k below is =
      sym (listing.exact n)
      ∙ one_passes (eq_by_cmp name_cmp n) n names k below (ap (eq_by_cmp name_cmp n) is ∙ ap is_eq (tied_itself names_total n))

  pub listed_is : (x : Name) (r : Result ℕ ℕ) → IsSearchInRange r (length names) → IsBinarySearchResult (λ y. derived y x) names r → is_ok r ≡ fin.contains_key m x
  listed_is x r range is = found_member names x r listing.sorted range (as_names x names r is) ∙ listing.exact x

  module _ (s : ℕ) where
    abbrev bound : Name
    bound = recipe_name s 4294967294

    pub last_ok : (i : ℕ) → i < length names → HoldsAt (λ y. name_cmp y bound ≡ Equal) names i → IsLastListed m s (Some 4294967294)
    last_ok i below is = (present bound i below (exact_names (get_or names i bound) bound (is bound)), λ v above last. absurd (omega arith))

    module _ (at : ℕ) (range : at ≤ length names) (found : IsNonDecreasingBy (λ y. ordering_index (name_cmp y bound)) names → IsPartitionPoint (λ y. name_cmp y bound ≡ Less) (λ y. name_cmp y bound ≡ Greater) names at) where
      parts : IsPartitionPoint (λ y. name_cmp y bound ≡ Less) (λ y. name_cmp y bound ≡ Greater) names at
      parts = found (rises names bound listing.sorted)

      below_at : (v k : ℕ) → v ≤ 4294967294 → k < length names → get_or names k (recipe_name s v) ≡ recipe_name s v → k < at
      below_at v k high below is = ⊎_elim
          (λ low. low)
          (λ late. absurd (⊎_elim
          (λ (ranks : 2 < 2). omega (arith, ranks))
          (λ (numbers : (2 ≡ 2) × (s * 2 ^ 32 + 4294967294 < s * 2 ^ 32 + v)). omega (arith, numbers.1, high))
          (more_is (recipe_name s v) bound (subst (λ (n : Name). name_cmp n bound ≡ Greater) is (parts.1 k (recipe_name s v) late below)))))
          (cases_lt k at)

      pub last_none : at ≡ 0 → IsLastListed m s None
      last_none zero_at v high = absent_unless (recipe_name s v) (λ k below is. let low = below_at v k high below is in absurd (omega (arith, low, zero_at)))

      module _ (y : Name) (some : 1 ≤ at) (here : y ≡ get_or names (at - 1) y) where
        before : (v k : ℕ) → k < at - 1 → get_or names k (recipe_name s v) ≡ recipe_name s v → name_cmp (recipe_name s v) y ≡ Less
        before v k low is =
            subst (λ (n : Name). name_cmp n y ≡ Less) is
            (subst (λ (n : Name). name_cmp (get_or names k (recipe_name s v)) n ≡ Less) (same_default names (at - 1) (recipe_name s v) y (omega arith) ∙ sym here)
            (Less-from_sorted name_cmp names k (at - 1) (recipe_name s v) listing.sorted low (omega arith)))

        at_place : (v k : ℕ) → k ≡ at - 1 → get_or names k (recipe_name s v) ≡ recipe_name s v → y ≡ recipe_name s v
        at_place v k last is = here ∙ same_default names (at - 1) y (recipe_name s v) (omega arith) ∙ ap (λ (j : ℕ). get_or names j (recipe_name s v)) (sym last) ∙ is

        number_is : (v : ℕ) → y ≡ recipe_name s v → y.number ≡ s * 2 ^ 32 + v
        number_is v is = ap (λ (n : Name). n.number) is

        recipe_between : (v : ℕ) → name_cmp (recipe_name s v) y ≡ Less → name_cmp y bound ≡ Less → (kind_rank y.kind ≡ 2) × (s * 2 ^ 32 + v < y.number) × (y.number < s * 2 ^ 32 + 4294967294)
        recipe_between v low high = ⊎_elim
            (λ (ranks : 2 < kind_rank y.kind). absurd (⊎_elim
            (λ (more : kind_rank y.kind < 2). omega (arith, ranks, more))
            (λ (same : (kind_rank y.kind ≡ 2) × (y.number < s * 2 ^ 32 + 4294967294)). omega (arith, ranks, same.0))
            (less_is y bound high)))
            (λ (numbers : (2 ≡ kind_rank y.kind) × (s * 2 ^ 32 + v < y.number)). ⊎_elim
            (λ (more : kind_rank y.kind < 2). absurd (omega (arith, numbers.0, more)))
            (λ (same : (kind_rank y.kind ≡ 2) × (y.number < s * 2 ^ 32 + 4294967294)). (same.0, numbers.1, same.1))
            (less_is y bound high))
            (less_is (recipe_name s v) y low)

        pub last_at : (o : Option ℕ) → IfSome o (λ v. (y ≡ recipe_name s v) × (v ≤ 4294967294)) → IfNone o ((v : ℕ) → v ≤ 4294967294 → y ≡ recipe_name s v → ⊥) → IsLastListed m s o
        last_at (Some w) is none = (
          subst (λ (n : Name). IsSome (fin.get m n)) is.0 (present y (at - 1) (omega arith) (sym here)),
          λ v above last. absent_unless (recipe_name s v) (λ k below found. ⊎_elim
              (λ low. ⊎_elim
              (λ (ranks : 2 < 2). omega (arith, ranks))
              (λ (numbers : (2 ≡ 2) × (s * 2 ^ 32 + v < s * 2 ^ 32 + w)). omega (arith, numbers.1, above))
              (less_is (recipe_name s v) (recipe_name s w) (subst (λ (n : Name). name_cmp (recipe_name s v) n ≡ Less) is.0 (before v k low found))))
              (λ late. let low = below_at v k last below found in let e = number_is v (at_place v k (omega (arith, late, low, some)) found) in let f = number_is w is.0 in omega (arith, e, f, above))
              (cases_lt k (at - 1))),
        )
        last_at None is none = λ v high. absent_unless (recipe_name s v) (λ k below found. ⊎_elim
            (λ low.
            let between = recipe_between v (before v k low found) (subst (λ (n : Name). name_cmp n bound ≡ Less) (sym here) (parts.0 (at - 1) y (omega arith) (omega arith))) in
            let w : ℕ = y.number - s * 2 ^ 32 in
            let number : y.number ≡ s * 2 ^ 32 + w = omega (arith, between.1) in
            none w (omega (arith, between.2)) (λ i. record { kind = kind_is y.kind between.0 i; number = number i }))
            (λ late. let low = below_at v k high below found in none v high (at_place v k (omega (arith, late, low, some)) found))
            (cases_lt k (at - 1)))

-- the last version that is to be read
last_some : (m : Blobs) (s floor v : ℕ) → IsLastListed m s (Some v) → v ≤ 4294967294 → floor ≤ v → IsLastDue m s floor v
last_some m s floor v is high from = record {
  due = λ w low up. inr (v, up, high, is.0);
  above = λ w low up last. is.1 w up last;
}

early : (m : Blobs) (s floor : ℕ) (o : Option ℕ) → IsLastListed m s o → IfSome o (λ v. v < floor) → (v : ℕ) → floor ≤ v → v ≤ 4294967294 → fin.get m (recipe_name s v) ≡ None
early m s floor None is low v from last = is v last
early m s floor (Some w) is low v from last = is.1 v (omega (arith, low, from)) last

pub due_some : (m : Blobs) (s floor v : ℕ) (o : Option ℕ) → IsLastListed m s o → o ≡ Some v → v ≤ 4294967294 → floor ≤ v → IsLastDue m s floor v
due_some m s floor v o is e high from = last_some m s floor v (subst (λ (p : Option ℕ). IsLastListed m s p) e is) high from

pub due_floor : (m : Blobs) (s floor : ℕ) (o : Option ℕ) → IsLastListed m s o → IfSome o (λ v. v < floor) → 1 < floor → IsLastDue m s floor floor
due_floor m s floor o is low more = record {
  due = λ v from up. inl (omega (arith, from, up), more);
  above = λ v from up last. early m s floor o is low v from last;
}

pub due_none : (m : Blobs) (s floor : ℕ) (o : Option ℕ) → IsLastListed m s o → IfSome o (λ v. v < floor) → 1 ≤ floor → IsLastDue m s floor 0
due_none m s floor o is low pos = record {
  due = λ v from up. absurd (omega (arith, from, up, pos));
  above = λ v from up last. early m s floor o is low v from last;
}

-- what the search for the greatest recipe finds
module _ (m : Blobs) (names : List Name) (listing : IsListing m names) (s : ℕ) (r : Result ℕ ℕ) (x : Name) (is_bound : x ≡ recipe_name s 4294967294) (range : IsSearchInRange r (length names)) (is : IsBinarySearchResult (λ y. derived y x) names r) where
  found_at : (q : Result ℕ ℕ) → r ≡ q → IsSearchInRange q (length names) × IsBinarySearchResult (λ y. name_cmp y (recipe_name s 4294967294)) names q
  found_at q e = (
    subst (λ (o : Result ℕ ℕ). IsSearchInRange o (length names)) e range,
    subst (λ (o : Result ℕ ℕ). IsBinarySearchResult (λ y. name_cmp y (recipe_name s 4294967294)) names o) e (subst (λ (n : Name). IsBinarySearchResult (λ y. name_cmp y n) names r) is_bound (as_names x names r is)),
  )

  pub search_ok : (i : ℕ) → r ≡ Ok i → IsLastListed m s (Some 4294967294)
  search_ok i e = let f = found_at (Ok i) e in last_ok m names listing s i f.0 f.1

  pub search_none : (at : ℕ) → r ≡ Err at → at ≡ 0 → IsLastListed m s None
  search_none at e zero_at = let f = found_at (Err at) e in last_none m names listing s at f.0 f.1 zero_at

  pub search_at : (at : ℕ) → r ≡ Err at → (y d : Name) → 1 ≤ at → y ≡ get_or names (at - 1) d → (o : Option ℕ) → IfSome o (λ v. (y ≡ recipe_name s v) × (v ≤ 4294967294)) → IfNone o ((v : ℕ) → v ≤ 4294967294 → y ≡ recipe_name s v → ⊥) → IsLastListed m s o
  search_at at e y d some here o = let f = found_at (Err at) e in let high : at ≤ length names = f.0 in last_at m names listing s at f.0 f.1 y some (here ∙ same_default names (at - 1) d y (omega (arith, high, some))) o

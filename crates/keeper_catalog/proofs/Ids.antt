-- The set of the ids of rows, as a tree of numbers gathers it.
use Rattle.std.proofs.Common.{◌≡◌, ℕ, Bool, true, false, cond, ◌||◌, List, [], ◌∷◌, ◌++◌, map, take, length, get_or, ◌+◌, ◌<◌, ◌≤◌, refl, sym, ap, subst, ◌∙◌}
use Rattle.std.specs.Prelude.{nat_eq, nat_lt}
use Rattle.std.specs.Ordering.{nat_cmp, match_ordering}
use Rattle.std.specs.declared.cmp.Ordering.TheVariants.{Less, Equal, Greater}
use Rattle.std.specs.BTreeSet.{insert_key}
use Rattle.std.proofs.lemmas.List.{map-append, take_more, take_all}
use Rattle.std.proofs.lemmas.List.Folds.{list_any-append}
use Rattle.vault_types.specs.declared.Row.{Row}
use Rattle.vault_types.specs.Lists.{has, with_number, set_of, IsAscending}
use Rattle.vault_types.proofs.SetLemmas.{has-set_of, has-with_number, IsAscending-with_number, IsAscending-set_of, ascending_unique}

pub insert_is : (n : ℕ) (ns : List ℕ) → insert_key nat_cmp ns n ≡ with_number n ns
insert_is n [] = refl
insert_is n (m ∷ ms) = step (nat_lt n m) (nat_eq n m) (insert_is n ms)
  where
    step : (b c : Bool) → insert_key nat_cmp ms n ≡ with_number n ms
        → match_ordering (cond b Less (cond c Equal Greater)) (n ∷ m ∷ ms) (m ∷ ms) (m ∷ insert_key nat_cmp ms n) ≡ cond b (n ∷ m ∷ ms) (cond c (m ∷ ms) (m ∷ with_number n ms))
    step true c h = refl
    step false true h = refl
    step false false h = ap (λ l. m ∷ l) h

or_comm : (a b : Bool) → (a || (b || false)) ≡ (b || a)
or_comm true true = refl
or_comm true false = refl
or_comm false true = refl
or_comm false false = refl

pub has_more : (c : ℕ) (xs : List Row) (x : Row) → has c (map (λ r. r.id) (xs ++ x ∷ [])) ≡ (nat_eq c x.id || has c (map (λ r. r.id) xs))
has_more c xs x =
    ap (has c) (map-append (λ (r : Row). r.id) xs (x ∷ []))
    ∙ list_any-append (nat_eq c) (map (λ r. r.id) xs) (x.id ∷ [])
    ∙ or_comm (has c (map (λ r. r.id) xs)) (nat_eq c x.id)

pub is_set_of : (keys ns : List ℕ) → IsAscending keys → ((c : ℕ) → has c keys ≡ has c ns) → keys ≡ set_of ns
is_set_of keys ns up h = ascending_unique keys (set_of ns) up (IsAscending-set_of ns) (λ c. h c ∙ sym (has-set_of c ns))

module _ (rows : List Row) (i : ℕ) (d : Row) (below : i < length rows) (keys news : List ℕ) (is : news ≡ insert_key nat_cmp keys (get_or rows i d).id) (each : (c : ℕ) → has c keys ≡ has c (map (λ r. r.id) (take i rows))) where
  pub each_more : (c : ℕ) → has c news ≡ has c (map (λ r. r.id) (take (i + 1) rows))
  each_more c =
      ap (has c) (is ∙ insert_is (get_or rows i d).id keys) ∙ has-with_number c (get_or rows i d).id keys ∙ ap (λ b. nat_eq c (get_or rows i d).id || b) (each c)
      ∙ sym (ap (λ l. has c (map (λ (r : Row). r.id) l)) (take_more rows i d below) ∙ has_more c (take i rows) (get_or rows i d))

  pub ascending_more : IsAscending keys → IsAscending news
  ascending_more up = subst IsAscending (sym (is ∙ insert_is (get_or rows i d).id keys)) (IsAscending-with_number (get_or rows i d).id keys up)

pub all_rows_of : (rows : List Row) (i : ℕ) (keys : List ℕ) → length rows ≤ i → IsAscending keys → ((c : ℕ) → has c keys ≡ has c (map (λ r. r.id) (take i rows))) → keys ≡ set_of (map (λ r. r.id) rows)
all_rows_of rows i keys past up each = is_set_of keys (map (λ r. r.id) rows) up (λ c. each c ∙ ap (λ l. has c (map (λ (r : Row). r.id) l)) (take_all i rows past))

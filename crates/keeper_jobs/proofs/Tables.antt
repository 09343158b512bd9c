-- The tables of a range of ids.
use Rattle.std.proofs.Common.{◌≡◌, ◌<◌, ◌≤◌, ◌+◌, ◌-◌, ℕ, zero, suc, Bool, true, false, cond, not, List, [], ◌∷◌, ◌++◌, Option, Some, None, refl, sym, ◌∙◌, ap, subst, arith}
use Rattle.std.specs.Prelude.{nat_eq}
use Rattle.std.specs.Option.{option_map_or}
use Rattle.std.specs.List.{AllByRecursion}
use Rattle.std.proofs.lemmas.Bool.Decides.{nat_tests}
use Rattle.vault_types.specs.declared.Fp.{Fp}
use Rattle.vault_types.specs.declared.Table.{Table}
use Rattle.fp_index.specs.Index.{IsIndexOf, without_id, IsOnlyOne}
use Rattle.keeper_catalog.specs.Catalog.{table_at}
use Rattle.keeper_jobs.specs.Jobs.{tables_at, tables_from, AreKeyed}

append_assoc : {X : Type 0} (xs ys zs : List X) → (xs ++ ys) ++ zs ≡ xs ++ (ys ++ zs)
append_assoc [] ys zs = refl
append_assoc (x ∷ xs) ys zs = ap (λ l. x ∷ l) (append_assoc xs ys zs)

append_none : {X : Type 0} (xs : List X) → xs ++ [] ≡ xs
append_none [] = refl
append_none (x ∷ xs) = ap (λ l. x ∷ l) (append_none xs)

-- one id more at the end
from_suc : (tables : List (ℕ × Table)) (first n : ℕ) → tables_from tables first (suc n) ≡ tables_from tables first n ++ tables_at tables (first + n)
from_suc tables first zero = append_none (tables_at tables first) ∙ ap (tables_at tables) (let e : first ≡ first + 0 = omega arith in e)
from_suc tables first (suc n) =
    ap (λ l. tables_at tables first ++ l) (from_suc tables (first + 1) n ∙ ap (λ k. tables_from tables (first + 1) n ++ tables_at tables k) (let e : (first + 1) + n ≡ first + suc n = omega arith in e))
    ∙ sym (append_assoc (tables_at tables first) (tables_from tables (first + 1) n) (tables_at tables (first + suc n)))

pub from_more : (tables : List (ℕ × Table)) (first id : ℕ) → first ≤ id → tables_from tables first (id + 1 - first) ≡ tables_from tables first (id - first) ++ tables_at tables id
from_more tables first id low =
    ap (tables_from tables first) (let e : id + 1 - first ≡ suc (id - first) = omega arith in e) ∙ from_suc tables first (id - first)
    ∙ ap (λ k. tables_from tables first (id - first) ++ tables_at tables k) (let e : first + (id - first) ≡ id = omega arith in e)

-- each of them is at its id

weaker : (first : ℕ) (ts : List Table) → AllByRecursion (λ t. first + 1 ≤ t.id) ts → AllByRecursion (λ t. first ≤ t.id) ts
weaker first [] all = tt
weaker first (t ∷ ts) all = (omega (arith, all.0), weaker first ts all.1)

above_at : (tables : List (ℕ × Table)) (first : ℕ) (rest : List Table) → AreKeyed tables → (o : Option Table) → table_at tables first ≡ o → AllByRecursion (λ t. first ≤ t.id) rest → AllByRecursion (λ t. first ≤ t.id) (option_map_or (λ t. t ∷ []) o [] ++ rest)
above_at tables first rest keyed None is all = all
above_at tables first rest keyed (Some t) is all = (omega (arith, keyed first t is), all)

pub from_above : (tables : List (ℕ × Table)) (first n : ℕ) → AreKeyed tables → AllByRecursion (λ t. first ≤ t.id) (tables_from tables first n)
from_above tables first zero keyed = tt
from_above tables first (suc n) keyed = above_at tables first (tables_from tables (first + 1) n) keyed (table_at tables first) refl (weaker first (tables_from tables (first + 1) n) (from_above tables (first + 1) n keyed))

-- without the first of them

others_stay : (id : ℕ) (ts : List Table) → AllByRecursion (λ t. nat_eq t.id id ≡ false) ts → without_id id ts ≡ ts
others_stay id [] all = refl
others_stay id (t ∷ ts) all = ap (λ b. cond (not b) (t ∷ without_id id ts) (without_id id ts)) all.0 ∙ ap (λ l. t ∷ l) (others_stay id ts all.1)

without_append : (id : ℕ) (xs ys : List Table) → without_id id (xs ++ ys) ≡ without_id id xs ++ without_id id ys
without_append id [] ys = refl
without_append id (x ∷ xs) ys = step (nat_eq x.id id) (without_append id xs ys)
  where
    step : (b : Bool) → without_id id (xs ++ ys) ≡ without_id id xs ++ without_id id ys
        → cond (not b) (x ∷ without_id id (xs ++ ys)) (without_id id (xs ++ ys)) ≡ cond (not b) (x ∷ without_id id xs) (without_id id xs) ++ without_id id ys
    step true h = h
    step false h = ap (λ l. x ∷ l) h

below_differ : (id : ℕ) (ts : List Table) → AllByRecursion (λ t. t.id < id) ts → AllByRecursion (λ t. nat_eq t.id id ≡ false) ts
below_differ id [] all = tt
below_differ id (t ∷ ts) all = let low = all.0 in ((let e : nat_eq t.id id ≡ false = grind (arith, nat_tests) in e), below_differ id ts all.1)

above_differ : (id : ℕ) (ts : List Table) → AllByRecursion (λ t. id + 1 ≤ t.id) ts → AllByRecursion (λ t. nat_eq t.id id ≡ false) ts
above_differ id [] all = tt
above_differ id (t ∷ ts) all = let high = all.0 in ((let e : nat_eq t.id id ≡ false = grind (arith, nat_tests) in e), above_differ id ts all.1)

only_append : (t : Table) (xs ys : List Table) → IsOnlyOne t xs → IsOnlyOne t ys → IsOnlyOne t (xs ++ ys)
only_append t [] ys one two = two
only_append t (x ∷ xs) ys one two = (one.0, only_append t xs ys one.1 two)

only_other : (t : Table) (ts : List Table) → AllByRecursion (λ u. nat_eq u.id t.id ≡ false) ts → IsOnlyOne t ts
only_other t [] all = tt
only_other t (u ∷ ts) all = ((λ same. absurd (let differ = all.0 in let e : nat_eq u.id t.id ≡ true = grind (arith, nat_tests) in let f : true ≡ false = sym e ∙ differ in cc)), only_other t ts all.1)

module _ (tables : List (ℕ × Table)) (keyed : AreKeyed tables) (known : List Table) (low first n : ℕ) (below : AllByRecursion (λ t. t.id < low) known) (past : low ≤ first) (t : Table) (is : table_at tables first ≡ Some t) where
  id_is : t.id ≡ first
  id_is = keyed first t is

  known_below : (ts : List Table) → AllByRecursion (λ u. u.id < low) ts → AllByRecursion (λ u. u.id < first) ts
  known_below [] all = tt
  known_below (u ∷ us) all = (omega (arith, all.0, past), known_below us all.1)

  abbrev rest : List Table
  rest = tables_from tables (first + 1) n

  known_differ : AllByRecursion (λ u. nat_eq u.id t.id ≡ false) known
  known_differ = subst (λ k. AllByRecursion (λ u. nat_eq u.id k ≡ false) known) (sym id_is) (below_differ first known (known_below known below))

  rest_differ : AllByRecursion (λ u. nat_eq u.id t.id ≡ false) rest
  rest_differ = subst (λ k. AllByRecursion (λ u. nat_eq u.id k ≡ false) rest) (sym id_is) (above_differ first rest (from_above tables (first + 1) n keyed))

  list_is : known ++ tables_from tables first (suc n) ≡ known ++ (t ∷ rest)
  list_is = ap (λ o. known ++ (option_map_or (λ u. u ∷ []) o [] ++ rest)) is

  pub is_only : IsOnlyOne t (known ++ tables_from tables first (suc n))
  is_only = subst (IsOnlyOne t) (sym list_is) (only_append t known (t ∷ rest) (only_other t known known_differ) ((λ same. refl), only_other t rest rest_differ))

  pub dropped_is : without_id t.id (known ++ tables_from tables first (suc n)) ≡ known ++ rest
  dropped_is =
      ap (without_id t.id) list_is ∙ without_append t.id known (t ∷ rest)
      ∙ ap (λ l. l ++ without_id t.id (t ∷ rest)) (others_stay t.id known known_differ)
      ∙ ap (λ l. known ++ l) (ap (λ b. cond (not b) (t ∷ without_id t.id rest) (without_id t.id rest)) (let e : nat_eq t.id t.id ≡ true = grind (arith, nat_tests) in e) ∙ others_stay t.id rest rest_differ)

pub none_is : (tables : List (ℕ × Table)) (known : List Table) (first n : ℕ) → table_at tables first ≡ None → known ++ tables_from tables first (suc n) ≡ known ++ tables_from tables (first + 1) n
none_is tables known first n is = ap (λ o. known ++ (option_map_or (λ u. u ∷ []) o [] ++ tables_from tables (first + 1) n)) is

pub one_more : (index : List (Fp × List ℕ)) (tables : List (ℕ × Table)) (known : List Table) (first id : ℕ) → first ≤ id
    → IsIndexOf index ((known ++ tables_from tables first (id - first)) ++ tables_at tables id) → IsIndexOf index (known ++ tables_from tables first (id + 1 - first))
one_more index tables known first id low h =
    subst (IsIndexOf index) (append_assoc known (tables_from tables first (id - first)) (tables_at tables id) ∙ ap (λ l. known ++ l) (sym (from_more tables first id low))) h

pub one_less : (index : List (Fp × List ℕ)) (tables : List (ℕ × Table)) (known : List Table) (id next : ℕ) → id < next
    → IsIndexOf index (known ++ tables_from tables id (next - id)) → IsIndexOf index (known ++ tables_from tables id (suc (next - (id + 1))))
one_less index tables known id next low h = subst (λ k. IsIndexOf index (known ++ tables_from tables id k)) (let e : next - id ≡ suc (next - (id + 1)) = omega arith in e) h

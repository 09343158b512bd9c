-- The index of some tables, after one is added or taken out.
use Rattle.std.proofs.Common.{◌≡◌, ℕ, Bool, true, false, cond, not, ◌&&◌, ◌||◌, List, [], ◌∷◌, ◌++◌, map, filter, refl, sym, ap, ◌∙◌, arith}
use Rattle.std.specs.Prelude.{nat_eq}
use Rattle.std.proofs.lemmas.Bool.Decides.{nat_tests}
use Rattle.std.proofs.lemmas.List.Folds.{list_any-append}
use Rattle.vault_types.specs.declared.Fp.{Fp}
use Rattle.vault_types.specs.declared.Table.{Table}
use Rattle.vault_types.specs.declared.TableRow.{TableRow}
use Rattle.std.specs.Global.{Vec}
use Rattle.vault_types.specs.Lists.{has, set_of, with_number, greatest}
use Rattle.vault_types.specs.Tables.{has_fp, newest}
use Rattle.vault_types.proofs.SetLemmas.{greatest-set_of, has-set_of, has-with_number, IsAscending-set_of, IsAscending-with_number, ascending_unique}
use Rattle.fp_index.specs.Index.{IsIndexOf, IsOnlyOne, ids_for, ids_having, found_in, without_id}
use Rattle.fp_index.specs.Lists.{lists, ids_in, row_has, without}
use Rattle.fp_index.proofs.Entries.{AreDone}
use Rattle.fp_index.proofs.Ids.{has-without, without-none, IsAscending-without}

abbrev holders : List Table → Fp → List ℕ
holders tables f = map (λ t. t.id) (filter (has_fp f) tables)

holders-more : (tables : List Table) (t : Table) (f : Fp) → holders (tables ++ t ∷ []) f ≡ holders tables f ++ cond (has_fp f t) (t.id ∷ []) []
holders-more [] t f = step (has_fp f t)
  where
    step : (b : Bool) → map (λ (t : Table). t.id) (cond b (t ∷ []) []) ≡ cond b (t.id ∷ []) []
    step true = refl
    step false = refl
holders-more (u ∷ tables) t f = step (has_fp f u) (holders-more tables t f)
  where
    step : (b : Bool) → holders (tables ++ t ∷ []) f ≡ holders tables f ++ cond (has_fp f t) (t.id ∷ []) []
        → map (λ (t : Table). t.id) (cond b (u ∷ filter (has_fp f) (tables ++ t ∷ [])) (filter (has_fp f) (tables ++ t ∷ []))) ≡ map (λ (t : Table). t.id) (cond b (u ∷ filter (has_fp f) tables) (filter (has_fp f) tables)) ++ cond (has_fp f t) (t.id ∷ []) []
    step true h = ap (λ ns. u.id ∷ ns) h
    step false h = h

append-nothing : (ns : List ℕ) → ns ++ [] ≡ ns
append-nothing [] = refl
append-nothing (n ∷ ns) = ap (λ ms. n ∷ ms) (append-nothing ns)

or_flip : (a b : Bool) → (a || (b || false)) ≡ (b || a)
or_flip true true = refl
or_flip true false = refl
or_flip false true = refl
or_flip false false = refl

set_of-more : (ns : List ℕ) (n : ℕ) → set_of (ns ++ n ∷ []) ≡ with_number n (set_of ns)
set_of-more ns n =
    ascending_unique (set_of (ns ++ n ∷ [])) (with_number n (set_of ns)) (IsAscending-set_of (ns ++ n ∷ [])) (IsAscending-with_number n (set_of ns) (IsAscending-set_of ns))
    (λ k. has-set_of k (ns ++ n ∷ []) ∙ list_any-append (nat_eq k) ns (n ∷ []) ∙ or_flip (has k ns) (nat_eq k n)
    ∙ sym (has-with_number k n (set_of ns) ∙ ap (λ b. nat_eq k n || b) (has-set_of k ns)))

pub ids_of-more : (tables : List Table) (t : Table) (f : Fp) → ids_having (tables ++ t ∷ []) f ≡ cond (has_fp f t) (with_number t.id (ids_having tables f)) (ids_having tables f)
ids_of-more tables t f = ap set_of (holders-more tables t f) ∙ step (has_fp f t)
  where
    step : (b : Bool) → set_of (holders tables f ++ cond b (t.id ∷ []) []) ≡ cond b (with_number t.id (ids_having tables f)) (ids_having tables f)
    step true = set_of-more (holders tables f) t.id
    step false = ap set_of (append-nothing (holders tables f))

-- the newest

pub found-newest : (entries : List (Fp × List ℕ)) (tables : List Table) (f : Fp) → IsIndexOf entries tables → found_in entries f ≡ newest tables f
found-newest entries tables f h = ap greatest (h.ids f) ∙ greatest-set_of (holders tables f)

-- without one

holders-without : (id : ℕ) (tables : List Table) (f : Fp) → holders (without_id id tables) f ≡ without id (holders tables f)
holders-without id [] f = refl
holders-without id (t ∷ tables) f = step (nat_eq t.id id) refl (holders-without id tables f)
  where
    gone : (c : Bool) → nat_eq t.id id ≡ true → holders (without_id id tables) f ≡ without id (holders tables f)
        → holders (without_id id tables) f ≡ without id (map (λ (t : Table). t.id) (cond c (t ∷ filter (has_fp f) tables) (filter (has_fp f) tables)))
    gone true e h = h ∙ sym (ap (λ b. cond (not b) (t.id ∷ without id (holders tables f)) (without id (holders tables f))) e)
    gone false e h = h

    kept : (c : Bool) → nat_eq t.id id ≡ false → holders (without_id id tables) f ≡ without id (holders tables f)
        → map (λ (t : Table). t.id) (cond c (t ∷ filter (has_fp f) (without_id id tables)) (filter (has_fp f) (without_id id tables))) ≡ without id (map (λ (t : Table). t.id) (cond c (t ∷ filter (has_fp f) tables) (filter (has_fp f) tables)))
    kept true e h = ap (λ ns. t.id ∷ ns) h ∙ sym (ap (λ b. cond (not b) (t.id ∷ without id (holders tables f)) (without id (holders tables f))) e)
    kept false e h = h

    step : (b : Bool) → nat_eq t.id id ≡ b → holders (without_id id tables) f ≡ without id (holders tables f)
        → holders (cond (not b) (t ∷ without_id id tables) (without_id id tables)) f ≡ without id (map (λ (t : Table). t.id) (cond (has_fp f t) (t ∷ filter (has_fp f) tables) (filter (has_fp f) tables)))
    step true e h = gone (has_fp f t) e h
    step false e h = kept (has_fp f t) e h

set_of-without : (id : ℕ) (ns : List ℕ) → set_of (without id ns) ≡ without id (set_of ns)
set_of-without id ns =
    ascending_unique (set_of (without id ns)) (without id (set_of ns)) (IsAscending-set_of (without id ns)) (IsAscending-without id (set_of ns) (IsAscending-set_of ns))
    (λ k. has-set_of k (without id ns) ∙ has-without k id ns ∙ sym (has-without k id (set_of ns) ∙ ap (λ b. not (nat_eq k id) && b) (has-set_of k ns)))

none_other : (table : Table) (tables : List Table) (f : Fp) → IsOnlyOne table tables → has_fp f table ≡ false → has table.id (holders tables f) ≡ false
none_other table [] f h e = refl
none_other table (t ∷ tables) f h e = step (has_fp f t) refl (none_other table tables f h.1 e)
  where
    step : (b : Bool) → has_fp f t ≡ b → has table.id (holders tables f) ≡ false → has table.id (map (λ (t : Table). t.id) (cond b (t ∷ filter (has_fp f) tables) (filter (has_fp f) tables))) ≡ false
    step false u i = i
    step true u i = pick (nat_eq table.id t.id) refl
      where
        pick : (b : Bool) → nat_eq table.id t.id ≡ b → (b || has table.id (holders tables f)) ≡ false
        pick false v = i
        pick true v =
            let same : t.id ≡ table.id = grind (arith, nat_tests) in
            let one : has_fp f t ≡ has_fp f table = ap (has_fp f) (h.0 same) in
            let clash : true ≡ false = sym u ∙ one ∙ e in
            cc

pub ids_of-without : (table : Table) (tables : List Table) (f : Fp) → IsOnlyOne table tables → ids_having (without_id table.id tables) f ≡ cond (has_fp f table) (without table.id (ids_having tables f)) (ids_having tables f)
ids_of-without table tables f h =
    ap set_of (holders-without table.id tables f) ∙ set_of-without table.id (holders tables f) ∙ step (has_fp f table) refl
  where
    step : (b : Bool) → has_fp f table ≡ b → without table.id (ids_having tables f) ≡ cond b (without table.id (ids_having tables f)) (ids_having tables f)
    step true e = refl
    step false e = without-none table.id (ids_having tables f) (IsAscending-set_of (holders tables f)) (has-set_of table.id (holders tables f) ∙ none_other table tables f h e)

-- what the lists hold after a change

after : (g : List ℕ → List ℕ) (old mid new : List (Fp × Vec ℕ)) (value : List (Fp × List ℕ)) (tables : List Table) (rows : List TableRow) (t : Table) (f : Fp)
    → lists old ≡ value → ((f : Fp) → ids_in mid f ≡ ids_in old f) → AreDone g mid new rows → rows ≡ t.rows → IsIndexOf value tables
    → ids_for (lists new) f ≡ cond (has_fp f t) (g (ids_having tables f)) (ids_having tables f)
after g old mid new value tables rows t f v m n e h =
    n f
    ∙ ap (λ rs. cond (row_has f rs) (g (ids_in mid f)) (ids_in mid f)) e
    ∙ ap (λ ns. cond (has_fp f t) (g ns) ns) (m f ∙ ap (λ es. ids_for es f) v ∙ h.ids f)

pub index-added : (old mid new : List (Fp × Vec ℕ)) (value : List (Fp × List ℕ)) (tables : List Table) (rows : List TableRow) (t : Table)
    → lists old ≡ value → ((f : Fp) → ids_in mid f ≡ ids_in old f) → AreDone (with_number t.id) mid new rows → rows ≡ t.rows → IsIndexOf value tables
    → IsIndexOf (lists new) (tables ++ t ∷ [])
index-added old mid new value tables rows t v m n e h =
    record { ids = λ f. after (with_number t.id) old mid new value tables rows t f v m n e h ∙ sym (ids_of-more tables t f) }

pub index-dropped : (old new : List (Fp × Vec ℕ)) (value : List (Fp × List ℕ)) (tables : List Table) (rows : List TableRow) (t : Table)
    → lists old ≡ value → AreDone (without t.id) old new rows → rows ≡ t.rows → IsIndexOf value tables → IsOnlyOne t tables
    → IsIndexOf (lists new) (without_id t.id tables)
index-dropped old new value tables rows t v n e h one =
    record { ids = λ f. after (without t.id) old old new value tables rows t f v (λ f. refl) n e h ∙ sym (ids_of-without t tables f one) }

pub index-none : IsIndexOf [] []
index-none = record { ids = λ f. refl }

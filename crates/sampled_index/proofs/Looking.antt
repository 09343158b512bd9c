-- The tables that were used last, as a cache keeps them.
use Rattle.std.proofs.Common.{◌≡◌, ℕ, zero, suc, ◌+◌, ◌-◌, ◌≤◌, Bool, true, false, cond, List, [], ◌∷◌, map, take, length, Option, Some, None, ◌++◌, ◌||◌, ◌<◌, get_or, refl, sym, ap, ◌∙◌, subst, arith}
use Rattle.std.specs.Prelude.{nat_eq}
use Rattle.std.specs.List.{list_any, AllByRecursion}
use Rattle.std.specs.Option.{option_map_or}
use Rattle.std.specs.Map.{lookup_entry, remove_entry}
use Rattle.std.proofs.lemmas.Bool.Decides.{nat_tests}
use Rattle.std.proofs.lemmas.List.{take_more}
use Rattle.std.proofs.lemmas.List.Folds.{list_any-append}
use Rattle.lru.specs.LruCache.{LruCache, lru_cache, promoted, put_entries}
use Rattle.vault_types.specs.declared.Fp.{Fp}
use Rattle.vault_types.specs.declared.Table.{Table}
use Rattle.vault_types.specs.declared.TableRow.{TableRow}
use Rattle.vault_types.specs.Names.{same_fp}
use Rattle.sampled_index.specs.Looks.{has_at, first_with, without_first, used_after}
use Rattle.sampled_index.specs.Tables.{first_holding}
use Rattle.sampled_index.specs.Sampling.{Sampling, HasUsed, IsTableOf}

-- one row more
pub row_more : (f : Fp) (rows : List TableRow) (i : ℕ) (d : TableRow) → i < length rows → (old new : Bool) → old ≡ list_any (λ r. same_fp r.fp f) (take i rows)
    → new ≡ cond (same_fp (get_or rows i d).fp f) true old → new ≡ list_any (λ r. same_fp r.fp f) (take (i + 1) rows)
row_more f rows i d l old new was is =
    is ∙ ap (λ b. cond (same_fp (get_or rows i d).fp f) true b) was ∙ step (same_fp (get_or rows i d).fp f) (list_any (λ r. same_fp r.fp f) (take i rows))
    ∙ sym (ap (λ (rs : List TableRow). list_any (λ r. same_fp r.fp f) rs) (take_more rows i d l) ∙ list_any-append (λ r. same_fp r.fp f) (take i rows) (get_or rows i d ∷ []))
  where
    step : (t o : Bool) → cond t true o ≡ (o || (t || false))
    step true true = refl
    step true false = refl
    step false true = refl
    step false false = refl

take_rows : (n : ℕ) (rows : List TableRow) → length rows ≤ n → take n rows ≡ rows
take_rows zero [] few = refl
take_rows (suc n) [] few = refl
take_rows zero (r ∷ rows) few = absurd (omega (arith, few))
take_rows (suc n) (r ∷ rows) few = ap (λ rs. r ∷ rs) (take_rows n rows (omega (arith, few)))

pub all_rows : (f : Fp) (rows : List TableRow) (n : ℕ) → length rows ≤ n → list_any (λ r. same_fp r.fp f) (take n rows) ≡ list_any (λ r. same_fp r.fp f) rows
all_rows f rows n few = ap (λ (rs : List TableRow). list_any (λ r. same_fp r.fp f) rs) (take_rows n rows few)

-- the container that is found is that of the tables
pub first_is : (tables : List Table) (f : Fp) (us : List (ℕ × List Fp)) → AllByRecursion (IsTableOf tables) us → first_holding f us ≡ first_with tables f (map (λ u. u.0) us)
first_is tables f [] all = refl
first_is tables f (u ∷ us) all =
    ap (λ b. cond b (Some u.0) (first_holding f us)) (all.0 f) ∙ ap (λ r. cond (has_at tables f u.0) (Some u.0) r) (first_is tables f us all.1)

pub first_of : (tables : List Table) (s : Sampling) (used : List ℕ) (f : Fp) (found : Option ℕ) → HasUsed tables s used → found ≡ first_holding f s.used → first_with tables f used ≡ found
first_of tables s used f found h is = ap (λ (ids : List ℕ). first_with tables f ids) (sym h.ids_are) ∙ sym (first_is tables f s.used h.tables_are) ∙ sym is

same_id : (a b : ℕ) → nat_eq a b ≡ true → a ≡ b
same_id a b t = grind (arith, nat_tests)

self_id : (a b : ℕ) → b ≡ a → nat_eq a b ≡ true
self_id a b e = grind (arith, nat_tests)

abbrev no_ids : List ℕ
no_ids = []

take_none : (n : ℕ) → take n no_ids ≡ no_ids
take_none zero = refl
take_none (suc n) = refl

-- so many of a list that has no more are all of it
take_all : (n : ℕ) (xs : List ℕ) → length xs ≤ n → take n xs ≡ xs
take_all n [] few = take_none n
take_all zero (x ∷ xs) few = absurd (omega (arith, few))
take_all (suc n) (x ∷ xs) few = ap (λ ys. x ∷ ys) (take_all n xs (omega (arith, few)))

module _ {V : Type 0} (keys : V → List Fp) (id : ℕ) where
  abbrev seen : List (ℕ × V) → List (ℕ × List Fp)
  seen es = map (λ e. (e.0, keys e.1)) es

  abbrev ids : List (ℕ × V) → List ℕ
  ids es = map (λ u. u.0) (seen es)

  abbrev IsThere : List (ℕ × V) → Type 0
  IsThere es = (e : ℕ × V) × (lookup_entry (nat_eq id) es ≡ Some e)

  -- one that was found is there
  is_there : (f : Fp) (es : List (ℕ × V)) → first_holding f (seen es) ≡ Some id → IsThere es
  is_there f [] h = cc
  is_there f (e ∷ es) h = by_test (list_any (same_fp f) (keys e.1)) h (is_there f es)
    where
      behind : (b : Bool) → IsThere es → (d : ℕ × V) × (cond b (Some e) (lookup_entry (nat_eq id) es) ≡ Some d)
      behind true there = (e, refl)
      behind false there = there

      by_test : (b : Bool) → cond b (Some e.0) (first_holding f (seen es)) ≡ Some id → (first_holding f (seen es) ≡ Some id → IsThere es) → IsThere (e ∷ es)
      by_test true h rest = (e, ap (λ (b : Bool). cond b (Some e) (lookup_entry (nat_eq id) es)) (self_id id e.0 (let same : e.0 ≡ id = cc in same)))
      by_test false h rest = behind (nat_eq id e.0) (rest h)

  -- an entry that is there has the id, and what holds of each holds of it
  entry_id : (es : List (ℕ × V)) (e : ℕ × V) → lookup_entry (nat_eq id) es ≡ Some e → e.0 ≡ id
  entry_id [] e h = cc
  entry_id (d ∷ es) e h = by_test (nat_eq id d.0) refl h (entry_id es e)
    where
      by_test : (b : Bool) → nat_eq id d.0 ≡ b → cond b (Some d) (lookup_entry (nat_eq id) es) ≡ Some e → (lookup_entry (nat_eq id) es ≡ Some e → e.0 ≡ id) → e.0 ≡ id
      by_test true t h rest = let same : d ≡ e = cc in sym (ap (λ (p : ℕ × V). p.0) same) ∙ sym (same_id id d.0 t)
      by_test false t h rest = rest h

  entry_all : (P : ℕ × List Fp → Type 0) (es : List (ℕ × V)) (e : ℕ × V) → AllByRecursion P (seen es) → lookup_entry (nat_eq id) es ≡ Some e → P (e.0, keys e.1)
  entry_all P [] e all h = cc
  entry_all P (d ∷ es) e all h = by_test (nat_eq id d.0) h (entry_all P es e all.1)
    where
      by_test : (b : Bool) → cond b (Some d) (lookup_entry (nat_eq id) es) ≡ Some e → (lookup_entry (nat_eq id) es ≡ Some e → P (e.0, keys e.1)) → P (e.0, keys e.1)
      by_test true h rest = let same : d ≡ e = cc in subst (λ (p : ℕ × V). P (p.0, keys p.1)) same all.0
      by_test false h rest = rest h

  -- the others
  removed_ids : (es : List (ℕ × V)) → ids (remove_entry (nat_eq id) es) ≡ without_first id (ids es)
  removed_ids [] = refl
  removed_ids (e ∷ es) = by_test (nat_eq id e.0) (removed_ids es)
    where
      by_test : (b : Bool) → ids (remove_entry (nat_eq id) es) ≡ without_first id (ids es) → ids (cond b es (e ∷ remove_entry (nat_eq id) es)) ≡ cond b (ids es) (e.0 ∷ without_first id (ids es))
      by_test true rest = refl
      by_test false rest = ap (λ ns. e.0 ∷ ns) rest

  removed_all : (P : ℕ × List Fp → Type 0) (es : List (ℕ × V)) → AllByRecursion P (seen es) → AllByRecursion P (seen (remove_entry (nat_eq id) es))
  removed_all P [] all = all
  removed_all P (e ∷ es) all = by_test (nat_eq id e.0) (removed_all P es all.1)
    where
      by_test : (b : Bool) → AllByRecursion P (seen (remove_entry (nat_eq id) es)) → AllByRecursion P (seen (cond b es (e ∷ remove_entry (nat_eq id) es)))
      by_test true rest = all.1
      by_test false rest = (all.0, rest)

  -- one fewer where it is there, and as many where it is not
  one_fewer : (es : List (ℕ × V)) (e : ℕ × V) → lookup_entry (nat_eq id) es ≡ Some e → suc (length (without_first id (ids es))) ≡ length (ids es)
  one_fewer [] e h = cc
  one_fewer (d ∷ es) e h = by_test (nat_eq id d.0) h (one_fewer es e)
    where
      by_test : (b : Bool) → cond b (Some d) (lookup_entry (nat_eq id) es) ≡ Some e → (lookup_entry (nat_eq id) es ≡ Some e → suc (length (without_first id (ids es))) ≡ length (ids es))
          → suc (length (cond b (ids es) (d.0 ∷ without_first id (ids es)))) ≡ suc (length (ids es))
      by_test true h rest = refl
      by_test false h rest = ap suc (rest h)

  none_gone : (es : List (ℕ × V)) → lookup_entry (nat_eq id) es ≡ None → without_first id (ids es) ≡ ids es
  none_gone [] h = refl
  none_gone (d ∷ es) h = by_test (nat_eq id d.0) h (none_gone es)
    where
      by_test : (b : Bool) → cond b (Some d) (lookup_entry (nat_eq id) es) ≡ None → (lookup_entry (nat_eq id) es ≡ None → without_first id (ids es) ≡ ids es)
          → cond b (ids es) (d.0 ∷ without_first id (ids es)) ≡ d.0 ∷ ids es
      by_test true h rest = cc
      by_test false h rest = ap (λ ns. d.0 ∷ ns) (rest h)

  -- the first of them
  taken_ids : (n : ℕ) (es : List (ℕ × V)) → ids (take n es) ≡ take n (ids es)
  taken_ids zero es = refl
  taken_ids (suc n) [] = refl
  taken_ids (suc n) (e ∷ es) = ap (λ ns. e.0 ∷ ns) (taken_ids n es)

  taken_all : (P : ℕ × List Fp → Type 0) (n : ℕ) (es : List (ℕ × V)) → AllByRecursion P (seen es) → AllByRecursion P (seen (take n es))
  taken_all P zero es all = tt
  taken_all P (suc n) [] all = tt
  taken_all P (suc n) (e ∷ es) all = (all.0, taken_all P n es all.1)

  -- with one in front of the others, where it was there
  fronted_ids : (room : ℕ) (es : List (ℕ × V)) (e d : ℕ × V) → lookup_entry (nat_eq id) es ≡ Some e → d.0 ≡ id → length (ids es) ≤ room
      → ids (d ∷ remove_entry (nat_eq id) es) ≡ take room (id ∷ without_first id (ids es))
  fronted_ids room es e d there is few =
      ap (λ ns. d.0 ∷ ns) (removed_ids es) ∙ ap (λ n. n ∷ without_first id (ids es)) is
      ∙ sym (take_all room (id ∷ without_first id (ids es)) (omega (arith, one_fewer es e there, few)))

  few_left : (room : ℕ) (ns : List ℕ) → length (take room ns) ≤ room
  few_left zero ns = omega arith
  few_left (suc n) [] = omega arith
  few_left (suc n) (m ∷ ns) = omega (arith, few_left n ns)

  abbrev view_of : List (Fp × ℕ) → List (ℕ × V) → ℕ → Sampling
  view_of hooks es room = record { hooks = hooks; used = seen es; room = room }

  module _ (tables : List Table) (hooks : List (Fp × ℕ)) (room : ℕ) (es : List (ℕ × V)) (used : List ℕ) (h : HasUsed tables (view_of hooks es room) used) where
    few : length (ids es) ≤ room
    few = subst (λ (ns : List ℕ). length ns ≤ room) (sym h.ids_are) h.within

    -- an entry in front of the others
    fronted : (e d : ℕ × V) → lookup_entry (nat_eq id) es ≡ Some e → d.0 ≡ id → IsTableOf tables (d.0, keys d.1)
        → HasUsed tables (view_of hooks (d ∷ remove_entry (nat_eq id) es) room) (used_after room used (Some id))
    fronted e d there is table = record {
      ids_are = fronted_ids room es e d there is few ∙ ap (λ ns. take room (id ∷ without_first id ns)) h.ids_are;
      tables_are = (table, removed_all (IsTableOf tables) es h.tables_are);
      within = few_left room (id ∷ without_first id used);
      some = h.some;
    }

    pub moved : (f : Fp) → first_holding f (seen es) ≡ Some id → HasUsed tables (view_of hooks (promoted (nat_eq id) es) room) (used_after room used (Some id))
    moved f found =
        let there = is_there f es found in
        subst (λ (o : Option (ℕ × V)). HasUsed tables (view_of hooks (option_map_or (λ e. e ∷ remove_entry (nat_eq id) es) o es) room) (used_after room used (Some id))) (sym there.1)
        (fronted there.0 there.0 there.1 (entry_id es there.0 there.1) (entry_all (IsTableOf tables) es there.0 h.tables_are there.1))

    -- a new entry in front
    new_ids : (n : ℕ) → room ≡ suc n → lookup_entry (nat_eq id) es ≡ None → id ∷ ids (take (room - 1) es) ≡ take room (id ∷ without_first id used)
    new_ids n is none =
        ap (λ m. id ∷ ids (take m es)) (omega (arith, is)) ∙ ap (λ ns. id ∷ ns) (taken_ids n es ∙ ap (λ ns. take n ns) (sym (none_gone es none)))
        ∙ sym (ap (λ m. take m (id ∷ without_first id (ids es))) is) ∙ ap (λ ns. take room (id ∷ without_first id ns)) h.ids_are

    before : (m : ℕ) → 1 ≤ m → (n : ℕ) × (m ≡ suc n)
    before zero some = absurd (omega (arith, some))
    before (suc n) some = (n, refl)

    pub put : (v : V) → ((f : Fp) → list_any (same_fp f) (keys v) ≡ has_at tables f id) → (o : Option (ℕ × V)) → lookup_entry (nat_eq id) es ≡ o
        → HasUsed tables (view_of hooks (option_map_or (λ e. (e.0, v) ∷ remove_entry (nat_eq id) es) o ((id, v) ∷ take (room - 1) es)) room) (used_after room used (Some id))
    put v table (Some e) there =
        let is = entry_id es e there in
        fronted e (e.0, v) there is (subst (λ (n : ℕ). IsTableOf tables (n, keys v)) (sym is) table)
    put v table None none =
        let n = before room h.some in
        record {
          ids_are = new_ids n.0 n.1 none;
          tables_are = (table, taken_all (IsTableOf tables) (room - 1) es h.tables_are);
          within = few_left room (id ∷ without_first id used);
          some = h.some;
        }

-- the same of a cache
module _ {V : Type 0} (keys : V → List Fp) where
  abbrev pub seen_of : List (Fp × ℕ) → LruCache ℕ V → Sampling
  seen_of hooks c = record { hooks = hooks; used = map (λ e. (e.0, keys e.1)) c.entries; room = c.cap }

  module _ (tables : List Table) (used : List ℕ) (s : Sampling) (hooks : List (Fp × ℕ)) (c n : LruCache ℕ V) (is : s ≡ seen_of hooks c) (h : HasUsed tables s used) (id : ℕ) where
    here : HasUsed tables (seen_of hooks c) used
    here = subst (λ (t : Sampling). HasUsed tables t used) is h

    room_is : s.room ≡ c.cap
    room_is = ap (λ (t : Sampling). t.room) is

    pub known_on : (f : Fp) (found : ℕ) → found ≡ id → Some found ≡ first_holding f (map (λ e. (e.0, keys e.1)) c.entries) → n ≡ lru_cache (promoted (nat_eq found) c.entries) c.cap
        → (first_with tables f used ≡ Some id) × HasUsed tables (seen_of hooks n) (used_after s.room used (Some id))
    known_on f found same holds new =
        let holds_id : first_holding f (map (λ e. (e.0, keys e.1)) c.entries) ≡ Some id = sym holds ∙ ap (λ i. Some i) same in (
          first_of tables (seen_of hooks c) used f (Some id) here (sym holds_id),
          subst (λ (m : LruCache ℕ V). HasUsed tables (seen_of hooks m) (used_after s.room used (Some id))) (sym (new ∙ ap (λ (i : ℕ). lru_cache (promoted (nat_eq i) c.entries) c.cap) same))
              (subst (λ (r : ℕ). HasUsed tables (seen_of hooks (lru_cache (promoted (nat_eq id) c.entries) c.cap)) (used_after r used (Some id))) (sym room_is)
              (moved keys id tables hooks c.cap c.entries used here f holds_id)),
        )

    pub absent_on : (f : Fp) → None ≡ first_holding f (map (λ e. (e.0, keys e.1)) c.entries) → first_with tables f used ≡ None
    absent_on f holds = first_of tables (seen_of hooks c) used f None here holds

    pub put_on : (v : V) → ((f : Fp) → list_any (same_fp f) (keys v) ≡ has_at tables f id) → n ≡ lru_cache (put_entries nat_eq c id v) c.cap
        → HasUsed tables (seen_of hooks n) (used_after s.room used (Some id))
    put_on v table new =
        subst (λ (m : LruCache ℕ V). HasUsed tables (seen_of hooks m) (used_after s.room used (Some id))) (sym new)
        (subst (λ (r : ℕ). HasUsed tables (seen_of hooks (lru_cache (put_entries nat_eq c id v) c.cap)) (used_after r used (Some id))) (sym room_is)
        (put keys id tables hooks c.cap c.entries used here v table (lookup_entry (nat_eq id) c.entries) refl))

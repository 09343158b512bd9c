-- The tables that are left of a deletion, and tables that are dropped one by one.
use Rattle.std.proofs.Common.{◌≡◌, ⊎_elim, ℕ, ◌<◌, map, Bool, true, false, cond, ◌||◌, ◌&&◌, not, List, [], ◌∷◌, ◌++◌, refl, sym, ◌∙◌, ap, subst, arith}
use Rattle.std.specs.Prelude.{Contains, filter, fold, nat_eq}
use Rattle.std.specs.List.{AllByRecursion}
use Rattle.std.proofs.lemmas.List.{append-nil, append_assoc}
use Rattle.std.proofs.lemmas.List.Folds.{list_any-append}
use Rattle.vault_types.specs.declared.Table.{Table}
use Rattle.vault_types.specs.Lists.{has, IsAscending}
use Rattle.vault_types.specs.Tables.{Container, id_of}
use Rattle.vault_types.specs.State.{State, named, all_rows, IsValid}
use Rattle.vault_types.specs.Delete.{delete, reclaimed_ids}
use Rattle.vault_types.proofs.SetLemmas.{IsAscending-set_of}
use Rattle.vault_types.proofs.StateLemmas.{row_ids}
use Rattle.fp_index.specs.Index.{without_id, IsOnlyOne}
use Rattle.deletion_laws.specs.Deleting.{without_ids}
use Rattle.state_laws.proofs.Members.{here, later, no_member, first_or_rest, filter_within, has-filter}
use Rattle.deletion_laws.proofs.Keeping.{container_named}

-- a filter of the images is that of the elements, where the tests agree at each of them
map-filter : {X Y : Type 0} (f : X → Y) (p : X → Bool) (q : Y → Bool) (xs : List X) → ((x : X) → Contains xs x → p x ≡ q (f x)) → map f (filter p xs) ≡ filter q (map f xs)
map-filter f p q [] same = refl
map-filter {X} {Y} f p q (x ∷ xs) same =
    step (p x) (map-filter f p q xs (λ y there. same y (later x xs y there)))
    ∙ ap (λ (b : Bool). cond b (f x ∷ filter q (map f xs)) (filter q (map f xs))) (same x (here x xs))
  where
    step : (b : Bool) → map f (filter p xs) ≡ filter q (map f xs) → map f (cond b (x ∷ filter p xs) (filter p xs)) ≡ cond b (f x ∷ filter q (map f xs)) (filter q (map f xs))
    step true e = ap (λ l. f x ∷ l) e
    step false e = e

-- the tables of the deletion
pub delete_index : (S : State) (s n : ℕ) → IsValid S → map (λ c. c.table) (delete S s n).containers ≡ without_ids (reclaimed_ids S (delete S s n)) (map (λ c. c.table) S.containers)
delete_index S s n valid = map-filter (λ (c : Container). c.table) (λ (c : Container). has c.table.id (named (delete S s n))) (λ (t : Table). not (has t.id (reclaimed_ids S (delete S s n)))) S.containers same
  where
    twice : (a b : Bool) → b ≡ true → a ≡ not (not a && b)
    twice true true e = refl
    twice false true e = refl
    twice a false e = absurd (let c : false ≡ true = e in cc)

    same : (c : Container) → Contains S.containers c → has c.table.id (named (delete S s n)) ≡ not (has c.table.id (reclaimed_ids S (delete S s n)))
    same c there = twice (has c.table.id (named (delete S s n))) (has c.table.id (named S)) (container_named S valid c there)
        ∙ ap not (sym (has-filter c.table.id (λ k. not (has k (named (delete S s n)))) (named S)))

-- one more id that is dropped
pub without_more : (ids : List ℕ) (id : ℕ) (tables : List Table) → without_id id (without_ids ids tables) ≡ without_ids (ids ++ id ∷ []) tables
without_more ids id [] = refl
without_more ids id (t ∷ ts) = step (has t.id ids) (nat_eq t.id id) refl (without_more ids id ts) ∙ ap (λ (b : Bool). cond (not b) (t ∷ without_ids (ids ++ id ∷ []) ts) (without_ids (ids ++ id ∷ []) ts)) (sym has_more)
  where
    has_more : has t.id (ids ++ id ∷ []) ≡ (has t.id ids || (nat_eq t.id id || false))
    has_more = list_any-append (nat_eq t.id) ids (id ∷ [])

    step : (a b : Bool) → nat_eq t.id id ≡ b → without_id id (without_ids ids ts) ≡ without_ids (ids ++ id ∷ []) ts
        → without_id id (cond (not a) (t ∷ without_ids ids ts) (without_ids ids ts)) ≡ cond (not (a || (b || false))) (t ∷ without_ids (ids ++ id ∷ []) ts) (without_ids (ids ++ id ∷ []) ts)
    step true b e h = h
    step false true e h = ap (λ (c : Bool). cond (not c) (t ∷ without_id id (without_ids ids ts)) (without_id id (without_ids ids ts))) e ∙ h
    step false false e h = ap (λ (c : Bool). cond (not c) (t ∷ without_id id (without_ids ids ts)) (without_id id (without_ids ids ts))) e ∙ ap (λ l. t ∷ l) h

pub without_none : (tables : List Table) → without_ids [] tables ≡ tables
without_none [] = refl
without_none (t ∷ ts) = ap (λ l. t ∷ l) (without_none ts)

-- one after the other
pub without_each : (ids gone : List ℕ) (tables : List Table) → fold (λ ts id. without_id id ts) (without_ids gone tables) ids ≡ without_ids (gone ++ ids) tables
without_each [] gone tables = ap (λ l. without_ids l tables) (sym (append-nil gone))
without_each (id ∷ ids) gone tables =
    ap (λ ts. fold (λ ts id. without_id id ts) ts ids) (without_more gone id tables)
    ∙ without_each ids (gone ++ id ∷ []) tables ∙ ap (λ l. without_ids l tables) (append_assoc gone (id ∷ []) ids)

-- no two tables of a valid state have one id

ascending_once : (cs : List Container) → IsAscending (map id_of cs) → (c d : Container) → Contains cs c → Contains cs d → c.table.id ≡ d.table.id → c ≡ d
ascending_once [] up c d one two same = absurd (no_member c one)
ascending_once (e ∷ es) up c d one two same = ⊎_elim
    (λ (first : e ≡ c). ⊎_elim (λ (also : e ≡ d). sym first ∙ also) (λ rest. absurd (let high = above es e.table.id up.0 d rest in let at : e.table.id ≡ c.table.id = ap id_of first in omega arith)) (first_or_rest e es d two))
    (λ rest. ⊎_elim (λ (first : e ≡ d). absurd (let high = above es e.table.id up.0 c rest in let at : e.table.id ≡ d.table.id = ap id_of first in omega arith)) (λ also. ascending_once es up.1 c d rest also same) (first_or_rest e es d two))
    (first_or_rest e es c one)
  where
    above : (ds : List Container) (k : ℕ) → AllByRecursion (λ m. k < m) (map id_of ds) → (x : Container) → Contains ds x → k < x.table.id
    above [] k all x there = absurd (no_member x there)
    above (y ∷ ys) k all x there = ⊎_elim (λ (first : y ≡ x). subst (λ (z : Container). k < z.table.id) first all.0) (λ rest. above ys k all.1 x rest) (first_or_rest y ys x there)

-- the containers of a valid state differ in their ids
pub containers_once : (S : State) → IsValid S → (c d : Container) → Contains S.containers c → Contains S.containers d → c.table.id ≡ d.table.id → c ≡ d
containers_once S valid = ascending_once S.containers (subst (λ (ids : List ℕ). IsAscending ids) (sym valid.containers) (IsAscending-set_of (row_ids (all_rows S.datasets))))

only_one : (table : Table) (tables : List Table) → ((t : Table) → Contains tables t → t.id ≡ table.id → t ≡ table) → IsOnlyOne table tables
only_one table [] one = tt
only_one table (t ∷ ts) one = (one t (here t ts), only_one table ts (λ u there. one u (later t ts u there)))

table_of : (cs : List Container) (t : Table) → Contains (map (λ c. c.table) cs) t → (c : Container) × Contains cs c × (c.table ≡ t)
table_of [] t there = absurd (no_member t there)
table_of (c ∷ cs) t there = ⊎_elim (λ first. (c, here c cs, first)) (λ rest. let r = table_of cs t rest in (r.0, later c cs r.0 r.1, r.2)) (first_or_rest c.table (map (λ c. c.table) cs) t there)

-- so a table of the state is the only one with its id, also among those that are left
pub is_only_one : (S : State) → IsValid S → (ids : List ℕ) (c : Container) → Contains S.containers c → IsOnlyOne c.table (without_ids ids (map (λ c. c.table) S.containers))
is_only_one S valid ids c there = only_one c.table (without_ids ids (map (λ c. c.table) S.containers))
    (λ t among same. let d = table_of S.containers t (filter_within (λ t. not (has t.id ids)) (map (λ c. c.table) S.containers) t among) in
    sym d.2 ∙ ap (λ (e : Container). e.table) (containers_once S valid d.0 c d.1 there (ap (λ (u : Table). u.id) d.2 ∙ same)))
